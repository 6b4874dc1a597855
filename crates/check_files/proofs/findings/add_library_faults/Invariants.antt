use Rattle.std.proofs.Common.{◌≡◌, ◌++◌, map, take}
use Rattle.check_files.specs.Findings.{fault_of, found_in}
use Rattle.check_files.proofs.findings.add_library_faults.Given as goal

abbrev pub invariant-loop-fault : goal.invariant-loop-fault
invariant-loop-fault l = l.findings.items ≡ l.initial.findings.items ++ map (found_in l.file) (map fault_of (take l.fault-index l.faults))
