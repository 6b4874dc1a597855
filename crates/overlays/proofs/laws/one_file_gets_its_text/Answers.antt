use Rattle.overlays.proofs.Requests.{one_file}
use Rattle.overlays.proofs.laws.one_file_gets_its_text.Goals as goal

pub returns : goal.returns
returns c = one_file c.args._file.now c.args._overlays.now
