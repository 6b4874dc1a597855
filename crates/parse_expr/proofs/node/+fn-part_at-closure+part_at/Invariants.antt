use Rattle.std.proofs.Common.{◌+◌, ◌*◌}
use Rattle.parse_expr.proofs.node.+fn-part_at-closure+part_at.Given as goal

abbrev pub decreases-part_at : goal.decreases-part_at
decreases-part_at l = 2 * l.room

abbrev pub decreases-closure : goal.decreases-closure
decreases-closure l = 2 * l.less + 1
