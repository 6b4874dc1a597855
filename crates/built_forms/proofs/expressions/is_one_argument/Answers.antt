use Rattle.std.proofs.Common.{arith}
use Rattle.built_forms.proofs.Alone.{no_one_argument}
use Rattle.built_forms.proofs.expressions.is_one_argument.Goals as goal

pub returns-else-arguments-eq1 : goal.returns-else-arguments-eq1
returns-else-arguments-eq1 c = no_one_argument c.args.outside.now c.args.arguments.now (λ one. omega (arith, one, c.if-arguments-eq1.false))
