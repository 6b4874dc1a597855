use Rattle.flow_model.proofs.JoinLaws.{is_in-join}
use Rattle.flow_model.proofs.laws.meetings.join_promotes_to_what_both_do.Goals as goal

pub returns : goal.returns
returns c = λ l m t. is_in-join l m t
