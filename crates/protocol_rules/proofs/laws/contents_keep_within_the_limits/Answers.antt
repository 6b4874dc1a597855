use Rattle.protocol_rules.proofs.TurnLemmas.{turn-within}
use Rattle.protocol_rules.proofs.WithinLemmas.{none_within}
use Rattle.protocol_rules.proofs.laws.contents_keep_within_the_limits.Goals as goal

pub returns-clause-start : goal.returns-clause-start
returns-clause-start c = λ packages. none_within

pub returns-clause-next : goal.returns-clause-next
returns-clause-next c = turn-within c.args._contents.now
