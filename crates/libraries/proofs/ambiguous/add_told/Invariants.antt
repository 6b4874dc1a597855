use Rattle.std.proofs.Common.{◌≡◌, ◌++◌, ◌≤◌, drop}
use Rattle.libraries.specs.Ambiguous.{told_from}
use Rattle.libraries.proofs.ambiguous.add_told.Given as goal

abbrev pub invariant-loop-aim : goal.invariant-loop-aim
invariant-loop-aim l = record {
  faults : l.faults.items ++ told_from l.heads l.told l.export (drop l.aim-index l.aims) ≡ l.initial.faults.items ++ told_from l.heads l.told 0 l.aims;
  few : l.export ≤ l.aim-index;
}
