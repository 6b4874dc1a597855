use Rattle.protocol_rules.proofs.TurnLemmas.{turn-takes}
use Rattle.protocol_rules.proofs.laws.an_update_is_taken_whole_or_not_at_all.Goals as goal

pub returns : goal.returns
returns c = turn-takes c.args._contents.now c.args._line.now
