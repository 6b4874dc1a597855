use Rattle.interface_part.specs.Same.{same_parts_Decides}
use Rattle.interface_part.proofs.OrderLemmas.{lexemes_are_unmarked, marks_are_counted}
use Rattle.interface_part.proofs.RunLemmas.{equal-seen}
use Rattle.interface_part.proofs.laws.interface_laws.Goals as goal

pub returns : goal.returns
returns c = record {
  seen = equal-seen;
  lexemes = lexemes_are_unmarked;
  marks = marks_are_counted;
  same = same_parts_Decides;
}
