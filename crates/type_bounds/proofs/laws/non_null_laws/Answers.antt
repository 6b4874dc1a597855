use Rattle.type_bounds.proofs.NonNulls.{non_null_below, non_null_steps}
use Rattle.type_bounds.proofs.NonNullLaws.{null_without_null}
use Rattle.type_bounds.proofs.laws.non_null_laws.Goals as goal

pub returns-clause-below : goal.returns-clause-below
returns-clause-below c = non_null_below c.args._rows.now.table

pub returns-clause-no_null : goal.returns-clause-no_null
returns-clause-no_null c = null_without_null c.args._rows.now.table c.row_laws.ensures

pub returns-clause-steps : goal.returns-clause-steps
returns-clause-steps c = non_null_steps c.args._rows.now.table c.row_laws.ensures
