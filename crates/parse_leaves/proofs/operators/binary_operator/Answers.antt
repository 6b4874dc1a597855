use Rattle.std.proofs.Common.{◌≡◌, ◌+◌, take, drop, true, Some}
use denote.Enum.Bare.{sameb}
use Rattle.grammar.specs.declared.level.Sign.TheVariants as sign
use Rattle.grammar.specs.contracts.level.Level as levels_of
use Rattle.grammar.specs.Tokens.{span_over}
use Rattle.grammar.specs.Operators.{sign_at, level_of}
use Rattle.parse_leaves.proofs.Signs.{binary_found}
use Rattle.parse_leaves.proofs.operators.binary_operator.Goals as goal

pub returns-then-eq : goal.returns-then-eq
returns-then-eq c =
    let found : sign_at c.args.tokens.now ≡ Some (sign.Binary c.in-Binary.kind, c.in_ok-sign.more) = let a = c.sign_at.ensures.reading in let b = c.in_ok-sign.was in let d = c.in-Binary.is in cc in
    let span : c.span_over-span.result ≡ span_over (take (c.in_ok-sign.more + 1) c.args.tokens.now) = let a = c.span_over-span.ensures in let b = c.first_tokens.ensures in cc in
    let rest : c.tokens_behind.result.now ≡ drop (c.in_ok-sign.more + 1) c.args.tokens.now = let a = c.tokens_behind.ensures in cc in
    let same : sameb levels_of.the_type (level_of c.in-Binary.kind) c.args.level ≡ true = let a = c.level_of.ensures in let b = c.if-eq.ensures in cc in
    binary_found c.args.level c.args.tokens.now c.tokens_behind.result.now c.in-Binary.kind c.in_ok-sign.more c.span_over-span.result found same span rest
