use Rattle.node_counts.proofs.TextTokens.{tokens_rise, tokens_hold, tokens_fewer}
use Rattle.node_counts.proofs.laws.grammar_tokens_rise.Goals as goal

pub returns : goal.returns
returns c = record { rise = tokens_rise; hold = tokens_hold; fewer = tokens_fewer }
