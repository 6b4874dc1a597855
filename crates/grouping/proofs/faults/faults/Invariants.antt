use Rattle.std.proofs.Common.{◌≡◌, ◌+◌, ◌++◌, drop, length}
use Rattle.grouping.specs.Faults.{faults_between}
use Rattle.grouping.proofs.faults.faults.Given as goal

abbrev pub invariant-loop-bracket : goal.invariant-loop-bracket
invariant-loop-bracket l =
    record {
      found : faults_between 0 0 l.read l.unopened ≡ l.faults.items ++ faults_between l.place l.before l.others (drop l.bracket-index l.unopened);
      count : l.place + length l.others ≡ length l.read + l.bracket-index;
    }
