use Rattle.protocol_rules.proofs.TurnLemmas.{turn-id}
use Rattle.protocol_rules.proofs.laws.a_reply_repeats_the_id.Goals as goal

pub returns : goal.returns
returns c = turn-id c.args._contents.now c.args._line.now
