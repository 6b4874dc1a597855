use Rattle.std.proofs.Common.{◌≡◌, ◌+◌, ◌^◌, ◌<◌, ◌++◌, length}
use Rattle.dart_scan.proofs.EscapeLemmas.{faults_in}
use Rattle.dart_scan.proofs.escape.push_bad_escapes.Given as goal

abbrev pub invariant-loop-unit : goal.invariant-loop-unit
invariant-loop-unit l = record {
  short : l.at + length l.rest < 2 ^ 32;
  faults : l.initial.faults.items ++ faults_in l.offset l.units ≡ l.faults.items ++ faults_in l.at l.rest;
}

abbrev pub decreases-loop-unit : goal.decreases-loop-unit
decreases-loop-unit l = length l.rest
