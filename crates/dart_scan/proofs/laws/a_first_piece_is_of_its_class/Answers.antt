use Rattle.dart_scan.proofs.FirstLemmas.{first-piece}
use Rattle.dart_scan.proofs.laws.a_first_piece_is_of_its_class.Goals as goal

pub returns : goal.returns
returns c = first-piece c.args._text.now
