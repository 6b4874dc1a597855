use Rattle.flow_model.proofs.ImpliedPairs.{restrict_keeps_order}
use Rattle.flow_model.proofs.Currents.{current_alike}
use Rattle.flow_model.proofs.laws.order.restrict_keeps_the_order.Goals as goal

pub returns : goal.returns
returns c = λ a b d e written captured same same_too currents.
    restrict_keeps_order c.args._rows.now.table written captured a b same d e same_too (λ v l m is_l is_m. current_alike a d v (currents v) l m is_l is_m)
