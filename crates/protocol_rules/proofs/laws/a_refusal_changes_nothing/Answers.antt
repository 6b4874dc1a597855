use Rattle.protocol_rules.proofs.TurnLemmas.{turn-keeps}
use Rattle.protocol_rules.proofs.laws.a_refusal_changes_nothing.Goals as goal

pub returns : goal.returns
returns c = turn-keeps c.args._contents.now
