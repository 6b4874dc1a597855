use Rattle.check_files.specs.Settled.{diagnostics_settled}
use Rattle.check_files.proofs.laws.diagnostics_are_settled.Goals as goal

pub returns : goal.returns
returns c = diagnostics_settled
