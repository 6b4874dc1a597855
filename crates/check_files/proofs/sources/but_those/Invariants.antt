use Rattle.std.proofs.Common.{◌≡◌, not, filter, take}
use Rattle.check_files.specs.Sources.{is_of_directive}
use Rattle.check_files.proofs.sources.but_those.Given as goal

abbrev pub invariant-loop-fault : goal.invariant-loop-fault
invariant-loop-fault l = l.own.items ≡ filter (λ fault. not (is_of_directive l.starts fault)) (take l.fault-index l.faults)
