use Rattle.std.proofs.Common.{◌≡◌, ◌++◌, map, take}
use Rattle.check_library.specs.Diagnostics.{fault_of_piece}
use Rattle.check_library.proofs.faults.add_lexical.Given as goal

abbrev pub invariant-loop-fault : goal.invariant-loop-fault
invariant-loop-fault l = l.faults.items ≡ l.initial.faults.items ++ map fault_of_piece (take l.fault-index l.found)
