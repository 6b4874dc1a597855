use Rattle.std.proofs.Common.{subst}
use Rattle.std.specs.Prelude.{IfErr}
use Rattle.class_depths.specs.Climbing.{IsRefusal}
use Rattle.class_depths.proofs.Falls.{never_over_itself}
use Rattle.class_depths.proofs.settling.settle.Goals as goal

pub returns-clause-over_itself : goal.returns-clause-over_itself
returns-clause-over_itself c = λ class e. subst (λ r. IfErr r (IsRefusal c.args.declared.now)) e c.rows_of.ensures.err

pub returns-clause-none_fit : goal.returns-clause-none_fit
returns-clause-none_fit c = λ class e vars rows fits. never_over_itself c.args.below.now.table vars c.args.declared.now rows fits class (subst (λ r. IfErr r (IsRefusal c.args.declared.now)) e c.rows_of.ensures.err)
