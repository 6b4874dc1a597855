use Rattle.type_bounds.proofs.OneBound.{one_upper_bound, one_lower_bound}
use Rattle.type_bounds.proofs.laws.bounds_are_unique.Goals as goal

pub returns-clause-upper : goal.returns-clause-upper
returns-clause-upper c = λ s t u v a b. one_upper_bound c.args._rows.now.table a b

pub returns-clause-lower : goal.returns-clause-lower
returns-clause-lower c = λ s t u v a b. one_lower_bound c.args._rows.now.table a b
