use Rattle.type_bounds.proofs.BoundLaws.{upper_above, lower_below}
use Rattle.type_bounds.proofs.BoundsHold.{upper_holds, lower_holds}
use Rattle.type_bounds.proofs.laws.bounds_are_bounds.Goals as goal

pub returns-clause-upper : goal.returns-clause-upper
returns-clause-upper c = λ v.
    let table = c.args._rows.now.table in
    let laws = c.row_laws.ensures in
    upper_above table laws (upper_holds table laws c.args._s.now c.args._t.now) v

pub returns-clause-lower : goal.returns-clause-lower
returns-clause-lower c = λ v.
    let table = c.args._rows.now.table in
    let laws = c.row_laws.ensures in
    lower_below table laws (lower_holds table laws c.args._s.now c.args._t.now) v
