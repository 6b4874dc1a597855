use Rattle.std.proofs.Common.{◌<◌, ℕ, get_or}
use Rattle.core_ir.specs.declared.facts.SlotFact.{SlotFact}
use Rattle.core_ir.proofs.facts.place_of.Given as goal

-- the slots so far come before the one that is looked for
abbrev pub invariant-loop-place : goal.invariant-loop-place
invariant-loop-place l = (k : ℕ) (d : SlotFact) → k < l.place → (get_or l.listed k d).slot.0 < l.slot.0
