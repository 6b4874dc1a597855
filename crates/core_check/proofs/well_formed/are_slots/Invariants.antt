use Rattle.std.proofs.Common.{◌<◌, ℕ}
use Rattle.std.specs.Prelude.{slice_index_or}
use Rattle.core_ir.specs.declared.points.SlotId.{SlotId}
use Rattle.core_check.specs.WellFormed.{IsSlot}
use Rattle.core_check.proofs.well_formed.are_slots.Given as goal

abbrev pub invariant-loop-slot : goal.invariant-loop-slot
invariant-loop-slot l = (k : ℕ) (d : SlotId) → k < l.slot-index → IsSlot l.function (slice_index_or l.slots k d)
