use Rattle.diagnostics.proofs.NameOrder.{ordered_by_name}
use Rattle.diagnostics.proofs.laws.codes_are_ordered_by_name.Goals as goal

pub returns : goal.returns
returns c = ordered_by_name c.args._a c.args._b
