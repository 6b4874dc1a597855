use Rattle.protocol_rules.proofs.TurnLemmas.{turn-told, turn-came}
use Rattle.protocol_rules.proofs.laws.a_fault_of_the_store_is_told_where_it_came.Goals as goal

pub returns-clause-told : goal.returns-clause-told
returns-clause-told c = turn-told c.args._contents.now

pub returns-clause-came : goal.returns-clause-came
returns-clause-came c = turn-came c.args._contents.now
