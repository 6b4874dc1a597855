use Rattle.core_check.proofs.NoClass.{nothing_out}
use Rattle.core_check.proofs.laws.rows_of_no_class_leave_nothing_out.Goals as goal

pub returns : goal.returns
returns c = nothing_out c.args._rows.now.table c.requires
