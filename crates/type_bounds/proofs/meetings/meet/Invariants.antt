use Rattle.std.proofs.Common.{◌+◌, ◌≤◌}
use Rattle.dart_types.specs.Ty.{Ty}
use Rattle.dart_types.specs.Measure.{weight_of}
use Rattle.type_bounds.specs.Bounds.{Upper}
use Rattle.type_bounds.specs.Chains.{marked_by}
use Rattle.type_bounds.proofs.meetings.meet.Given as goal

-- what is left weighs no more, and its bound, with `?` where there was a mark, is that of the whole
abbrev pub invariant-loop-end : goal.invariant-loop-end
invariant-loop-end l =
    (weight_of l.rows.table l.left + weight_of l.rows.table l.right ≤ weight_of l.rows.table l.s + weight_of l.rows.table l.t) × ((u : Ty) → Upper l.rows.table l.left l.right u → Upper l.rows.table l.s l.t (marked_by l.marked u))

abbrev pub decreases-loop-end : goal.decreases-loop-end
decreases-loop-end l = weight_of l.rows.table l.left + weight_of l.rows.table l.right
