use Rattle.std.proofs.Common.{◌≡◌, ◌++◌, map, take}
use Rattle.check_files.specs.Findings.{found_in}
use Rattle.check_files.proofs.findings.add_faults.Given as goal

abbrev pub invariant-loop-fault : goal.invariant-loop-fault
invariant-loop-fault l = l.findings.items ≡ l.initial.findings.items ++ map (found_in l.file) (take l.fault-index l.faults)
