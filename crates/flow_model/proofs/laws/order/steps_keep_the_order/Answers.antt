use Rattle.flow_model.specs.Steps.{exit_of}
use Rattle.std.proofs.Common.{refl}
use Rattle.flow_model.proofs.Implied.{declare_implies, end_implies, unreached_implies}
use Rattle.flow_model.proofs.ImpliedPairs.{conservative_implies, join_keeps_order}
use Rattle.flow_model.proofs.laws.order.steps_keep_the_order.Goals as goal

pub returns : goal.returns
returns c = record {
  declare = λ a b local. declare_implies a b local;
  end = λ a b vars. end_implies a b vars;
  exit = λ a b. unreached_implies (exit_of a) (exit_of b) refl;
  conservative_join = λ a b written captured. conservative_implies written captured a b;
  join = λ a b d e same same_too. join_keeps_order a b same d e same_too;
}
