use Rattle.dart_tokens.proofs.WordLemmas.{identifier_or_reserved, reserved_by_kind, nameless_word}
use Rattle.dart_tokens.proofs.laws.words_are_identifiers_or_reserved.Goals as goal

pub returns : goal.returns
returns c = record { identifier = identifier_or_reserved c.args._word.now; reserved = reserved_by_kind c.args._word.now; types = nameless_word c.args._word.now }
