use Rattle.type_infer.proofs.NotOpen.{not_open}
use Rattle.type_infer.proofs.contexts.Context.of.Goals as goal

pub returns-clause-closed : goal.returns-clause-closed
returns-clause-closed c = λ rows over. not_open rows.table rows.formed c.in_ok-ty.ty over
