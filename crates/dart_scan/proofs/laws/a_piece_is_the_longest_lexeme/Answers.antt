use Rattle.dart_scan.specs.LongestLemmas.{longest}
use Rattle.dart_scan.proofs.laws.a_piece_is_the_longest_lexeme.Goals as goal

pub returns : goal.returns
returns c = longest c.args._text.now c.args._lexeme.now
