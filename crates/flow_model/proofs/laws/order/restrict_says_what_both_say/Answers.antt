use Rattle.flow_model.proofs.ImpliedPairs.{restrict_implies}
use Rattle.flow_model.proofs.laws.order.restrict_says_what_both_say.Goals as goal

pub returns : goal.returns
returns c = λ a b k written captured same. restrict_implies c.args._rows.now.table written captured a b same k
