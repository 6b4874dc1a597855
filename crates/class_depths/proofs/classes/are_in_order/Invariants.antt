use Rattle.std.proofs.Common.{◌≤◌}
use Rattle.class_depths.proofs.Ids.{AreRising}
use Rattle.class_depths.specs.declared.classes.DeclaredClass.{DeclaredClass}
use Rattle.class_depths.proofs.classes.are_in_order.Given as goal

-- the first ids rise
abbrev pub invariant-loop-i : goal.invariant-loop-i
invariant-loop-i l = AreRising (λ (d : DeclaredClass). d.id.lib.0) (λ (d : DeclaredClass). d.id.index) l.declared l.i × (1 ≤ l.i)
