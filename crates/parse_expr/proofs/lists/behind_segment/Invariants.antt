use Rattle.std.proofs.Common.{◌≡◌, length, drop}
use Rattle.grammar.specs.Statements.{segment_at}
use Rattle.parse_expr.proofs.lists.behind_segment.Given as goal

abbrev pub invariant-loop-more : goal.invariant-loop-more
invariant-loop-more l = record {
  reading : drop (segment_at (length l.tokens) l.tokens) l.tokens ≡ drop (segment_at l.more l.rest) l.rest;
}

abbrev pub decreases-loop-more : goal.decreases-loop-more
decreases-loop-more l = l.more
