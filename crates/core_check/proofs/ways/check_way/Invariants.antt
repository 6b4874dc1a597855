use Rattle.std.proofs.Common.{◌≡◌, []}
use Rattle.core_check.specs.Faults.{of_slots, slot_on}
use Rattle.core_check.specs.Checks.{part_of}
use Rattle.core_check.proofs.ways.check_way.Given as goal

abbrev pub invariant-loop-slot : goal.invariant-loop-slot
invariant-loop-slot l = of_slots l.slot (slot_on l.context.program.now l.context.function.now l.facts (part_of l.part) l.way) ≡ []
