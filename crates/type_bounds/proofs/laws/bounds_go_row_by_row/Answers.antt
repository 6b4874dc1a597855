use Rattle.type_bounds.proofs.BoundsHold.{upper_by_row, lower_by_row, upper_rows, lower_rows}
use Rattle.type_bounds.proofs.laws.bounds_go_row_by_row.Goals as goal

pub returns-clause-upper : goal.returns-clause-upper
returns-clause-upper c = upper_by_row c.args._rows.now.table c.row_laws.ensures c.args._s.now c.args._t.now

pub returns-clause-lower : goal.returns-clause-lower
returns-clause-lower c = lower_by_row c.args._rows.now.table c.row_laws.ensures c.args._s.now c.args._t.now

pub returns-clause-upper_rows : goal.returns-clause-upper_rows
returns-clause-upper_rows c = λ n le. upper_rows c.args._rows.now.table c.row_laws.ensures n c.args._s.now c.args._t.now le

pub returns-clause-lower_rows : goal.returns-clause-lower_rows
returns-clause-lower_rows c = λ n le. lower_rows c.args._rows.now.table c.row_laws.ensures n c.args._s.now c.args._t.now le
