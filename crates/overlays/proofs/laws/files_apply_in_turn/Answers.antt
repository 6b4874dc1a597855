use Rattle.overlays.proofs.Requests.{no_files, files_go_on, files_stop}
use Rattle.overlays.proofs.laws.files_apply_in_turn.Goals as goal

pub returns : goal.returns
returns c = record {
  none = no_files c.args._overlays.now;
  goes_on = files_go_on c.args._files.now c.args._others.now c.args._overlays.now;
  stops = files_stop c.args._files.now c.args._others.now c.args._overlays.now;
}
