use Rattle.flow_model.proofs.Scopes.{facts_of-at_local_same, facts_of-at_local_other}
use Rattle.flow_model.proofs.laws.steps.a_step_changes_one_local.Goals as goal

pub returns : goal.returns
returns c = record {
  own = λ m var change keeps. facts_of-at_local_same m var change keeps;
  others = λ m var change keeps other. facts_of-at_local_other m var change keeps other;
}
