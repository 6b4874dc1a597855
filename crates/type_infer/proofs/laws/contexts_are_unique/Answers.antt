use Rattle.type_infer.proofs.OneAnswer.{one_context}
use Rattle.type_infer.proofs.laws.contexts_are_unique.Goals as goal

pub returns : goal.returns
returns c = λ pairs formal a b p q. one_context c.args._rows.now.table c.bound_table_laws.ensures c.args._params.now p q
