use Rattle.flow_model.proofs.JoinLaws.{and-comm, or-comm, is_in-join_comm, is_in-union_comm}
use Rattle.flow_model.proofs.laws.meetings.join_commutes.Goals as goal

pub returns : goal.returns
returns c = record {
  chain = λ l m t. is_in-join_comm l m t;
  tested = λ l m t. is_in-union_comm l.tested m.tested t;
  assigned = λ l m. and-comm l.assigned m.assigned;
  unassigned = λ l m. and-comm l.unassigned m.unassigned;
  captured = λ l m. or-comm l.captured m.captured;
}
