use Rattle.std.specs.Prelude.{Bool, ◌||◌}
use Rattle.dart_types.specs.Ty.{Ty}
use Rattle.dart_types.specs.Measure.{deepness_of}
use Rattle.type_bounds.specs.Chains.{LeadsTo}
use Rattle.type_bounds.proofs.chains.chain_from.Given as goal

-- what is left leads where the whole does
abbrev pub invariant-loop-bound : goal.invariant-loop-bound
invariant-loop-bound l = (m : Bool) (end : Ty) → LeadsTo l.rows.table l.other l.last m end → LeadsTo l.rows.table l.other l.first (l.marked || m) end

abbrev pub decreases-loop-bound : goal.decreases-loop-bound
decreases-loop-bound l = deepness_of l.rows.table l.last
