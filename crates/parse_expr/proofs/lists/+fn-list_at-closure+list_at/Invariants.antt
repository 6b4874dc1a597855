use Rattle.std.proofs.Common.{◌+◌, ◌*◌}
use Rattle.parse_expr.proofs.lists.+fn-list_at-closure+list_at.Given as goal

abbrev pub decreases-list_at : goal.decreases-list_at
decreases-list_at l = 2 * l.depth

abbrev pub decreases-closure : goal.decreases-closure
decreases-closure l = 2 * l.less + 1
