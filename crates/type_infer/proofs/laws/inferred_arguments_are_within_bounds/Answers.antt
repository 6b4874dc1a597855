use Rattle.type_infer.proofs.WithinBounds.{inferred_within}
use Rattle.type_infer.proofs.laws.inferred_arguments_are_within_bounds.Goals as goal

pub returns : goal.returns
returns c = λ pairs ts a. inferred_within c.args._rows.now.table a
