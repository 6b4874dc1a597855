use Rattle.std.proofs.Common.{◌∙◌, ap}
use Rattle.dart_tokens.specs.declared.token.Kind.{Kind}
use Rattle.dart_tokens.specs.Kinds.{is_reserved_word}
use Rattle.dart_tokens.proofs.WordLemmas.{reserved_by_kind}
use Rattle.dart_tokens.proofs.word.is_reserved.Goals as goal

pub returns : goal.returns
returns c = c.is_reserved_word.ensures ∙ ap (λ (k : Kind). is_reserved_word k) c.kind_of_word.ensures ∙ reserved_by_kind c.args.word.now
