use Rattle.std.proofs.Common.{◌≡◌, ◌+◌, take, drop, Some}
use Rattle.grammar.specs.declared.level.Sign.TheVariants as sign
use Rattle.grammar.specs.Tokens.{span_over}
use Rattle.grammar.specs.Operators.{sign_at}
use Rattle.parse_leaves.proofs.Signs.{assignment_found}
use Rattle.parse_leaves.proofs.operators.assignment_operator.Goals as goal

pub returns-in-Assign : goal.returns-in-Assign
returns-in-Assign c =
    let found : sign_at c.args.tokens.now ≡ Some (sign.Assign c.in-Assign.compound, c.in_ok-sign.more) = let a = c.sign_at.ensures.reading in let b = c.in_ok-sign.was in let d = c.in-Assign.is in cc in
    let span : c.span_over-span.result ≡ span_over (take (c.in_ok-sign.more + 1) c.args.tokens.now) = let a = c.span_over-span.ensures in let b = c.first_tokens.ensures in cc in
    let rest : c.tokens_behind.result.now ≡ drop (c.in_ok-sign.more + 1) c.args.tokens.now = let a = c.tokens_behind.ensures in cc in
    assignment_found c.args.tokens.now c.tokens_behind.result.now c.in-Assign.compound c.in_ok-sign.more c.span_over-span.result found span rest
