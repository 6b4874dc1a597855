use Rattle.std.proofs.Common.{◌≡◌, ◌+◌}
use Rattle.dart_types.specs.Sizes.{size_of, held}
use Rattle.dart_types.specs.Measure.{weight_of}
use Rattle.type_bounds.specs.NonNull.{non_null_of}
use Rattle.type_bounds.proofs.non_nulls.non_null_nodes.Given as goal

-- the variables that were counted and what is left without null are all
abbrev pub invariant-loop-bare : goal.invariant-loop-bare
invariant-loop-bare l = held (l.variables + size_of (non_null_of l.rows.table l.left)) ≡ held (size_of (non_null_of l.rows.table l.t))

abbrev pub decreases-loop-bare : goal.decreases-loop-bare
decreases-loop-bare l = weight_of l.rows.table l.left
