use Rattle.std.proofs.Common.{◌<◌, List, [], ◌∷◌, ◌++◌, get_or, length, arith, ap, ◌∙◌}
use Rattle.std.proofs.lemmas.List.{get_or_default}
use Rattle.dart_tokens.specs.declared.token.Token.{Token}
use Rattle.dart_tokens.specs.declared.token.Kind.TheVariants as kind
use Rattle.interface_part.specs.Interface.{lexeme_of}
use Rattle.interface_part.proofs.Walks.{lexemes_more}
use Rattle.interface_part.proofs.shown.with_lexemes.Goals as goal

pub loop-at-preserved : goal.loop-at-preserved
loop-at-preserved c =
    let tokens = c.args.tokens.now in
    let at = c.loop-at.at in
    let within : at < length tokens = omega (arith, c.requires, c.loop-at-test.true) in
    let t : Token = get_or tokens at (record { kind = kind.Identifier; start = 0; end = 0; word = 0 }) in
    lexemes_more c.args.words.now tokens at t _ _ _ within (get_or_default tokens at _ _ within) c.loop-at.invariant
    (c.in_ok-more.ensures ∙ ap (λ (rest : List Token). c.loop-at.more ++ lexeme_of c.args.words.now t rest ∷ []) c.behind.ensures)
