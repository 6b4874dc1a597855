use Rattle.flow_model.proofs.StepLaws.{facts_of-conservative, conservative_forgets, conservative_keeps}
use Rattle.flow_model.proofs.laws.steps.code_forgets_what_it_changes.Goals as goal

pub returns : goal.returns
returns c = record {
  each = λ m written captured var. facts_of-conservative m written captured var;
  forgotten = λ m written captured var. conservative_forgets m written captured var;
  kept = λ m written captured var. conservative_keeps m written captured var;
}
