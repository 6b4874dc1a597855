use Rattle.overlays.proofs.LookUps.{text_in-drop, text_in-drop_other}
use Rattle.overlays.proofs.laws.drop_changes_one_text.Goals as goal

pub returns : goal.returns
returns c = record {
  gone = text_in-drop c.args._path.now c.args._overlays.now;
  others = λ is_other. text_in-drop_other c.args._path.now c.args._other.now is_other c.args._overlays.now;
}
