use Rattle.std.proofs.Common.{sym, subst}
use Rattle.type_bounds.specs.Bounds.{Upper, Lower}
use Rattle.type_bounds.proofs.BoundsHold.{upper_holds, lower_holds, upper_is, lower_is}
use Rattle.type_bounds.proofs.laws.bounds_are_those_of_the_tables.Goals as goal

pub returns-clause-upper : goal.returns-clause-upper
returns-clause-upper c = λ s t u.
    let table = c.args._rows.now.table in
    let laws = c.row_laws.ensures in
    (λ a. upper_is table laws a, λ e. subst (Upper table s t) (sym e) (upper_holds table laws s t))

pub returns-clause-lower : goal.returns-clause-lower
returns-clause-lower c = λ s t u.
    let table = c.args._rows.now.table in
    let laws = c.row_laws.ensures in
    (λ a. lower_is table laws a, λ e. subst (Lower table s t) (sym e) (lower_holds table laws s t))
