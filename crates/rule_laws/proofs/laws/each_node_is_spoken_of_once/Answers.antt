use Rattle.rule_laws.proofs.KeyOnce.{speaks_once}
use Rattle.rule_laws.proofs.laws.each_node_is_spoken_of_once.Goals as goal

pub returns : goal.returns
returns c = speaks_once
