-- A segment ends behind its first semicolon or group of braces.
use Rattle.std.proofs.Common.{rules, ◌≡◌, [], ◌∷◌, true, false}
use Rattle.dart_tokens.specs.declared.token.Kind.TheVariants as kind
use Rattle.grammar.specs.Tokens.{is}
use Rattle.parse_expr.proofs.Segments.{ends_empty, ends_semicolon, ends_braces}
use Rattle.parse_expr.proofs.lists.behind_segment.Goals as goal

pub returns-then-eq : goal.returns-then-eq
returns-then-eq c =
    let there : c.loop-more.rest.now ≡ c.in-Some.first.now ∷ c.in-Some.behind.now = search rules in
    let is_semicolon : is kind.Semicolon c.in-Some.first.now ≡ true = search rules in
    ends_semicolon c.args.tokens.now c.loop-more.rest.now c.in-Some.behind.now c.in-Some.first.now c.loop-more.more c.loop-more.invariant.reading c.loop-more-test.true there is_semicolon

pub returns-then-eq-2 : goal.returns-then-eq-2
returns-then-eq-2 c =
    let there : c.loop-more.rest.now ≡ c.in-Some.first.now ∷ c.in-Some.behind.now = search rules in
    let no_semicolon : is kind.Semicolon c.in-Some.first.now ≡ false = search rules in
    let is_brace : is kind.OpenBrace c.in-Some.first.now ≡ true = search rules in
    ends_braces c.args.tokens.now c.loop-more.rest.now c.in-Some.behind.now c.tokens_behind-after.result.now c.in-Some.first.now c.loop-more.more c.past.result c.loop-more.invariant.reading c.loop-more-test.true there no_semicolon is_brace c.past.ensures c.tokens_behind-after.ensures

pub returns-in_default : goal.returns-in_default
returns-in_default c =
    let empty : c.loop-more.rest.now ≡ [] = search rules in
    ends_empty c.args.tokens.now c.loop-more.rest.now c.loop-more.more c.loop-more.invariant.reading empty
