use Rattle.std.proofs.Common.{◌≡◌, ◌++◌, map, take}
use Rattle.check_files.specs.Findings.{fault_of}
use Rattle.check_files.proofs.reports.homeless_faults.Given as goal

abbrev pub invariant-loop-fault : goal.invariant-loop-fault
invariant-loop-fault l = l.faults.items ≡ l.initial.faults.items ++ map fault_of (take l.fault-index l.fault-items)
