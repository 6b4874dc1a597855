use Rattle.check_files.specs.Settled.{findings_settled}
use Rattle.check_files.proofs.laws.findings_are_settled.Goals as goal

pub returns : goal.returns
returns c = findings_settled
