use Rattle.type_infer.proofs.FirstWithout.{no_solution_where, unconstrained_where}
use Rattle.type_infer.proofs.laws.refusals_are_for_the_first_parameter.Goals as goal

pub returns-clause-no_solution : goal.returns-clause-no_solution
returns-clause-no_solution c = λ pairs x. no_solution_where c.args._rows.now.table c.args._params.now pairs x

pub returns-clause-unconstrained : goal.returns-clause-unconstrained
returns-clause-unconstrained c = λ pairs x. unconstrained_where c.args._rows.now.table c.args._params.now pairs x
