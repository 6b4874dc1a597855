use Rattle.std.proofs.Common.{◌≡◌, take}
use Rattle.check_files.specs.Findings.{faults_in}
use Rattle.check_files.proofs.findings.faults_in.Given as goal

abbrev pub invariant-loop-finding : goal.invariant-loop-finding
invariant-loop-finding l = l.faults.items ≡ faults_in l.file (take l.finding-index l.findings)
