use Rattle.dart_tokens.proofs.WordLemmas.{named_word, other_word}
use Rattle.dart_tokens.proofs.laws.words_have_their_kinds.Goals as goal

pub returns : goal.returns
returns c = record { named = named_word; others = other_word c.args._word.now }
