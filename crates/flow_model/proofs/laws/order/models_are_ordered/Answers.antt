use Rattle.flow_model.proofs.Implied.{implies-refl, implies-trans}
use Rattle.flow_model.proofs.laws.order.models_are_ordered.Goals as goal

pub returns : goal.returns
returns c = record { reflexive = λ a. implies-refl a; transitive = λ a b d. implies-trans a b d }
