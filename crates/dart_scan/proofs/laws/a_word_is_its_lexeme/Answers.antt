use Rattle.dart_scan.proofs.TokenLaws.{has_words}
use Rattle.dart_scan.proofs.laws.a_word_is_its_lexeme.Goals as goal

pub returns : goal.returns
returns c = has_words c.args._text.now
