use Rattle.overlays.proofs.LookUps.{text_in-put, text_in-put_other}
use Rattle.overlays.proofs.laws.put_changes_one_text.Goals as goal

pub returns : goal.returns
returns c = record {
  there = text_in-put c.args._path.now c.args._text.now c.args._overlays.now;
  others = λ is_other. text_in-put_other c.args._path.now c.args._text.now c.args._other.now is_other c.args._overlays.now;
}
