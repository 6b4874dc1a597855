use Rattle.std.proofs.Common.{refl, true, []}
use Rattle.flow_model.proofs.Scopes.{with_locals, facts_of-fold}
use Rattle.flow_model.proofs.laws.steps.start_knows_its_locals.Goals as goal

pub returns : goal.returns
returns c = λ vars var distinct. facts_of-fold vars (with_locals true []) var distinct refl
