use Rattle.flow_model.specs.Flow.{facts_of}
use Rattle.flow_model.proofs.Found.{none_from_is_none}
use Rattle.flow_model.proofs.Scopes.{end_of-declare_of}
use Rattle.flow_model.proofs.laws.steps.end_undoes_declare.Goals as goal

pub returns : goal.returns
returns c = λ m local order absent. end_of-declare_of m local order (none_from_is_none (facts_of m local.var) absent)
