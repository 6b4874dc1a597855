use Rattle.std.proofs.Common.{◌<◌, ℕ}
use Rattle.std.specs.Prelude.{slice_index_or}
use Rattle.core_ir.specs.declared.facts.SlotFact.{SlotFact}
use Rattle.core_check.specs.WellFormed.{IsSlot}
use Rattle.core_check.proofs.well_formed.listed_are_in.Given as goal

abbrev pub invariant-loop-place : goal.invariant-loop-place
invariant-loop-place l = (k : ℕ) (d : SlotFact) → k < l.place → IsSlot l.function (slice_index_or l.facts.listed k d).slot
