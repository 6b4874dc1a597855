use Rattle.dart_tokens.proofs.WordLemmas.{one_word}
use Rattle.dart_tokens.proofs.laws.words_are_distinct.Goals as goal

pub returns : goal.returns
returns c = one_word c.args._word.now c.args._other.now
