use Rattle.std.proofs.Common.{pos}
use borrow.Author.Gap.{gap}
use Rattle.parse_expr.proofs.places.window.Given as goal

abbrev pub decreases-loop-more : goal.decreases-loop-more
decreases-loop-more l = gap (pos 0) l.more
