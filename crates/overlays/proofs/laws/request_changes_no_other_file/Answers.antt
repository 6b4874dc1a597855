use Rattle.overlays.proofs.Requests.{others-applied}
use Rattle.overlays.proofs.laws.request_changes_no_other_file.Goals as goal

pub returns : goal.returns
returns c = others-applied c.args._other.now c.args._files.now c.args._overlays.now
