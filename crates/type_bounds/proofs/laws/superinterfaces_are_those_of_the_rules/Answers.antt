use Rattle.type_bounds.proofs.CommonLists.{above_sound, above_complete}
use Rattle.type_bounds.proofs.laws.superinterfaces_are_those_of_the_rules.Goals as goal

pub returns-clause-over_parameters : goal.returns-clause-over_parameters
returns-clause-over_parameters c = λ d v.
    (c.row_laws.ensures.kept_complete d v, c.row_laws.ensures.kept_sound d v)

pub returns-clause-with_arguments : goal.returns-clause-with_arguments
returns-clause-with_arguments c = λ d ts u.
    let table = c.args._rows.now.table in
    let laws = c.row_laws.ensures in
    (above_complete table laws d ts u, above_sound table laws d ts u)
