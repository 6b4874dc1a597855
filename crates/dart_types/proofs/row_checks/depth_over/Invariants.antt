use Rattle.std.proofs.Common.{◌≡◌, max, drop, []}
use Rattle.dart_types.specs.Tables.{depth_above}
use Rattle.dart_types.specs.Unions.{beside}
use Rattle.dart_types.proofs.row_checks.depth_over.Given as goal

-- the longest way so far, and that over the supertypes that are left
abbrev pub invariant-loop-v : goal.invariant-loop-v
invariant-loop-v l =
    max l.depth (depth_above (beside l.below.table (record { classes = l.classes; vars = [] })) (drop l.v-index l.supers)) ≡ depth_above (beside l.below.table (record { classes = l.classes; vars = [] })) l.supers
