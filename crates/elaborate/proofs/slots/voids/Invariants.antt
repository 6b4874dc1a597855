use Rattle.std.proofs.Common.{◌≡◌, [], map}
use Rattle.std.specs.List.{range_with_len}
use Rattle.elaborate.specs.Elaborated.{slot_type}
use Rattle.elaborate.proofs.slots.voids.Given as goal

abbrev pub invariant-loop-k : goal.invariant-loop-k
invariant-loop-k l = l.slots.items ≡ map (slot_type []) (range_with_len l._first l._k)
