use Rattle.type_bounds.proofs.BoundsHold.{upper_holds, lower_holds}
use Rattle.type_bounds.proofs.OverBounds.{upper_over, lower_over}
use Rattle.type_bounds.proofs.laws.bounds_are_over_rows.Goals as goal

pub returns-clause-upper : goal.returns-clause-upper
returns-clause-upper c =
    let table = c.args._rows.now.table in
    let laws = c.row_laws.ensures in
    upper_over table laws c.requires.rows (upper_holds table laws c.args._s.now c.args._t.now) c.requires.left c.requires.right

pub returns-clause-lower : goal.returns-clause-lower
returns-clause-lower c =
    let table = c.args._rows.now.table in
    let laws = c.row_laws.ensures in
    lower_over table laws c.requires.rows (lower_holds table laws c.args._s.now c.args._t.now) c.requires.left c.requires.right
