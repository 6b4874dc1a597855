use Rattle.std.proofs.Common.{◌≡◌, ◌+◌, take, drop, Some}
use Rattle.grammar.specs.declared.level.Sign.TheVariants as sign
use Rattle.grammar.specs.Tokens.{span_over}
use Rattle.grammar.specs.Operators.{sign_at}
use Rattle.grammar.specs.Declarations.{declared_operator}
use Rattle.parse_members.proofs.DeclaredSigns.{declared_found}
use Rattle.parse_members.proofs.operators.declared_sign.Goals as goal

pub returns-in-Some : goal.returns-in-Some
returns-in-Some c =
    let found : sign_at c.args.tokens.now ≡ Some (sign.Binary c.in-Binary.kind, c.in_ok-sign.more) = let a = c.sign_at.ensures.reading in let b = c.in_ok-sign.was in let d = c.in-Binary.is in cc in
    let which : declared_operator c.in-Binary.kind ≡ Some c.in-Some.operator = let a = c.declared_operator.ensures in let b = c.in-Some.ensures in let d = c.in-Some.is in cc in
    let span : c.span_over-span.result ≡ span_over (take (c.in_ok-sign.more + 1) c.args.tokens.now) = let a = c.span_over-span.ensures in let b = c.first_tokens.ensures in cc in
    let rest : c.tokens_behind.result.now ≡ drop (c.in_ok-sign.more + 1) c.args.tokens.now = let a = c.tokens_behind.ensures in cc in
    declared_found c.args.tokens.now c.tokens_behind.result.now c.in-Binary.kind c.in-Some.operator c.in_ok-sign.more c.span_over-span.result found which span rest
