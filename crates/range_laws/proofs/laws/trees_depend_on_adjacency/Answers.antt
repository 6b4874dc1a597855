use Rattle.range_laws.proofs.Whole.{units_same}
use Rattle.range_laws.proofs.laws.trees_depend_on_adjacency.Goals as goal

pub returns : goal.returns
returns c = units_same c.list_laws.ensures.lists c.unit_laws.ensures.whole
