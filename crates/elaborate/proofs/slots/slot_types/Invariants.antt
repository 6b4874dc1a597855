use Rattle.std.proofs.Common.{◌≡◌, drop, map}
use Rattle.std.specs.List.{range_with_len}
use Rattle.elaborate.specs.Elaborated.{slot_type}
use Rattle.elaborate.proofs.slots.slot_types.Given as goal

-- what is said by those from the index on has been put
abbrev pub invariant-loop-i : goal.invariant-loop-i
invariant-loop-i l = l.slots.items ≡ map (slot_type (drop l.i l.typed)) (range_with_len l.said.first l.count)
