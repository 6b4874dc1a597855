use Rattle.node_counts.proofs.Whole.{unit_nodes}
use Rattle.node_counts.proofs.laws.nodes_are_bounded.Goals as goal

pub returns : goal.returns
returns c = unit_nodes c.list_laws.ensures.lists c.unit_laws.ensures.whole
