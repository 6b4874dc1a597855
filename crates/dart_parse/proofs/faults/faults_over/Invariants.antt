use Rattle.std.proofs.Common.{◌≡◌, map, take}
use Rattle.dart_parse.specs.Faults.{fault_over}
use Rattle.dart_parse.proofs.faults.faults_over.Given as goal

abbrev pub invariant-loop-at : goal.invariant-loop-at
invariant-loop-at l = l.faults.items ≡ map (fault_over l.text) (take l.at-index l.errors)
