use Rattle.type_infer.proofs.MoreRows.{same_inferred, same_context}
use Rattle.type_infer.proofs.laws.more_rows_laws.Goals as goal

pub returns-clause-inferred : goal.returns-clause-inferred
returns-clause-inferred c = λ returned context formals actuals r k fs gs.
    same_inferred c.args._small.now.table c.args._large.now.table c.wider_bounds_laws.ensures c.bound_table_laws.ensures c.bound_table_laws-2.ensures returned context formals actuals r k fs gs
    c.requires.function c.args._params.now c.requires.params

pub returns-clause-context : goal.returns-clause-context
returns-clause-context c = λ returned context formals done r k fs ds.
    same_context c.args._small.now.table c.args._large.now.table c.wider_bounds_laws.ensures c.bound_table_laws.ensures c.bound_table_laws-2.ensures returned context formals done r k fs ds
    c.requires.function c.args._params.now c.requires.params
