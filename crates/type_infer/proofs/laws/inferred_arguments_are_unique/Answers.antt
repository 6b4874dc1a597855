use Rattle.type_infer.proofs.OneAnswer.{one_inference}
use Rattle.type_infer.proofs.laws.inferred_arguments_are_unique.Goals as goal

pub returns : goal.returns
returns c = λ pairs a b p q. one_inference c.args._rows.now.table c.bound_table_laws.ensures c.args._params.now p q
