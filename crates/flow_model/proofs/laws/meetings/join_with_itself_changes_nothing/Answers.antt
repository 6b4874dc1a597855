use Rattle.flow_model.proofs.JoinLaws.{join_of-self}
use Rattle.flow_model.proofs.laws.meetings.join_with_itself_changes_nothing.Goals as goal

pub returns : goal.returns
returns c = λ m free. join_of-self m free
