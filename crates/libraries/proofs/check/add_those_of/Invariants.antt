use Rattle.std.proofs.Common.{◌≡◌, ◌++◌, drop}
use Rattle.libraries.specs.Checks.{faults_for}
use Rattle.libraries.proofs.check.add_those_of.Given as goal

abbrev pub invariant-loop-one : goal.invariant-loop-one
invariant-loop-one l = l.faults.items ++ faults_for l.place (drop l.one-index l.found) ≡ l.initial.faults.items ++ faults_for l.place l.found
