use Rattle.flow_model.proofs.Scopes.{facts_of-declare_same, facts_of-declare_other}
use Rattle.flow_model.proofs.laws.steps.declare_adds_one_local.Goals as goal

pub returns : goal.returns
returns c = record {
  own = λ m local. facts_of-declare_same m local;
  others = λ m local other. facts_of-declare_other m local other;
}
