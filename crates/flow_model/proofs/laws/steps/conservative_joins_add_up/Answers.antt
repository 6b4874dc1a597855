use Rattle.flow_model.proofs.Forgets.{conservative_of-twice}
use Rattle.flow_model.proofs.laws.steps.conservative_joins_add_up.Goals as goal

pub returns : goal.returns
returns c = λ m written captured more_written more_captured. conservative_of-twice written captured more_written more_captured m
