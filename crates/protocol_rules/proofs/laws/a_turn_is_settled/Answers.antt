use Rattle.protocol_rules.specs.Settled.{turn-settled, turn-told}
use Rattle.protocol_rules.proofs.laws.a_turn_is_settled.Goals as goal

pub returns-clause-unasked : goal.returns-clause-unasked
returns-clause-unasked c = λ told told' mark mark' event turn turn'. turn-settled told told' mark mark' c.args._contents.now event turn turn'

pub returns-clause-told : goal.returns-clause-told
returns-clause-told c = λ stored mark event turn turn'. turn-told stored c.args._contents.now mark event turn turn'
