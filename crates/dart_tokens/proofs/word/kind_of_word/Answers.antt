use Rattle.std.proofs.Common.{ℕ, List, ◌∙◌, ap}
use Rattle.dart_tokens.specs.declared.token.Kind.{Kind}
use Rattle.dart_tokens.specs.declared.token.Kind.TheVariants as kind
use Rattle.dart_tokens.specs.Words.{kind_beside}
use Rattle.dart_tokens.proofs.WordLemmas.{kind_at_first, kind_of_nothing}
use Rattle.dart_tokens.proofs.word.kind_of_word.Goals as goal

pub returns-in-Some : goal.returns-in-Some
returns-in-Some c =
    let word = c.args.word.now in
    c.kind_among.ensures ∙ ap (λ (rows : List (List ℕ × Kind)). kind_beside word kind.Identifier rows) c.rows_from.ensures ∙ kind_at_first word c.in-Some.first.now c.in-Some.ensures.value

pub returns-in-None : goal.returns-in-None
returns-in-None c = kind_of_nothing c.args.word.now c.in-None.ensures.value
