use Rattle.std.proofs.Common.{◌≡◌, ◌++◌, drop}
use Rattle.directives.specs.UnitFaults.{name_faults}
use Rattle.directives.proofs.faults.add_names.Given as goal

abbrev pub invariant-loop-directive : goal.invariant-loop-directive
invariant-loop-directive l = l.faults.items ++ name_faults (drop l.directive-index l.directives) ≡ l.initial.faults.items ++ name_faults l.directives
