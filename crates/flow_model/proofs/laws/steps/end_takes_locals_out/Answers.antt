use Rattle.flow_model.proofs.Found.{after_end}
use Rattle.flow_model.proofs.laws.steps.end_takes_locals_out.Goals as goal

pub returns : goal.returns
returns c = λ m vars var. after_end m vars var
