use Rattle.std.proofs.Common.{◌≡◌, ◌+◌, ◌++◌, drop}
use Rattle.grouping.specs.Faults.{faults_of_read}
use Rattle.grouping.proofs.faults.add_faults.Given as goal

abbrev pub invariant-loop-index : goal.invariant-loop-index
invariant-loop-index l = l.initial.faults.items ++ faults_of_read l.place l.read ≡ l.faults.items ++ faults_of_read (l.place + l.index) (drop l.index l.read)
