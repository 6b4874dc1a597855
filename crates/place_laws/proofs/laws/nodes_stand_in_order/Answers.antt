use Rattle.place_laws.proofs.Whole.{units_on_tokens, units_in_order}
use Rattle.place_laws.proofs.laws.nodes_stand_in_order.Goals as goal

pub returns : goal.returns
returns c = record {
  tokens = units_on_tokens c.list_laws.ensures.lists c.unit_laws.ensures.whole;
  parts = units_in_order c.list_laws.ensures.lists c.unit_laws.ensures.whole;
}
