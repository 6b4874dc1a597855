use Rattle.std.proofs.Common.{◌≡◌, ◌++◌, drop}
use Rattle.libraries.specs.LinkFaults.{link_faults}
use Rattle.libraries.proofs.link_faults.add_link_faults.Given as goal

abbrev pub invariant-loop-aim : goal.invariant-loop-aim
invariant-loop-aim l = l.faults.items ++ link_faults l.heads l.own l.library (drop l.aim-index l.aims) ≡ l.initial.faults.items ++ link_faults l.heads l.own l.library l.aims
