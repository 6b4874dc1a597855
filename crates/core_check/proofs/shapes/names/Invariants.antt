use Rattle.std.proofs.Common.{◌≡◌, ◌++◌, flat_map, take}
use Rattle.core_check.specs.Shapes.{slot_of}
use Rattle.core_check.proofs.shapes.names.Given as goal

abbrev pub invariant-loop-operand : goal.invariant-loop-operand
invariant-loop-operand l = l.named.items ≡ l.slots ++ flat_map slot_of (take l.operand-index l.operands)
