use Rattle.std.proofs.Common.{arith}
use Rattle.built_forms.proofs.Alone.{no_one_variable}
use Rattle.built_forms.proofs.locals.is_one_variable.Goals as goal

pub returns-else-variables-eq1 : goal.returns-else-variables-eq1
returns-else-variables-eq1 c = no_one_variable c.args.outside.now c.args.variables.now (λ one. omega (arith, one, c.if-variables-eq1.false))
