use Rattle.interface_part.specs.Hidden.{hidden_in}
use Rattle.edit_laws.proofs.Parts.{parts_stay}
use Rattle.edit_laws.proofs.laws.edits_inside_leave_the_interface_part.Goals as goal

pub returns : goal.returns
returns c = record {
  parts = parts_stay;
  units = λ u v e. parts_stay u.words (hidden_in u.tree) u.tokens v.words (hidden_in v.tree) v.tokens e;
}
