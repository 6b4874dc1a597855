use Rattle.overlays.proofs.Requests.{no_edits, one_edit, edits_go_on, edits_stop}
use Rattle.overlays.proofs.laws.edits_apply_in_turn.Goals as goal

pub returns : goal.returns
returns c = record {
  none = no_edits c.args._text.now;
  one = one_edit c.args._text.now;
  goes_on = edits_go_on c.args._edits.now c.args._others.now c.args._text.now;
  stops = edits_stop c.args._edits.now c.args._others.now c.args._text.now;
}
