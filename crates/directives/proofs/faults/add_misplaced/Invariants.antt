use Rattle.std.proofs.Common.{◌≡◌, ◌++◌, map, take}
use Rattle.directives.specs.UnitFaults.{misplaced_fault}
use Rattle.directives.proofs.faults.add_misplaced.Given as goal

abbrev pub invariant-loop-span : goal.invariant-loop-span
invariant-loop-span l = l.faults.items ≡ l.initial.faults.items ++ map misplaced_fault (take l.span-index l.spans)
