use Rattle.flow_model.proofs.ImpliedPairs.{first_implies_join, second_implies_join, join_implies}
use Rattle.flow_model.proofs.laws.order.both_ends_imply_their_join.Goals as goal

pub returns : goal.returns
returns c = record {
  first = λ a b same. first_implies_join a b same;
  second = λ a b same. second_implies_join a b same;
  most = λ a b k same. join_implies a b same k;
}
