-- What stands in the group is read to its end, or nothing is.
use Rattle.std.proofs.Common.{sym, ◌∙◌}
use Rattle.dart_tokens.specs.declared.token.Kind.TheVariants as kind
use Rattle.readings.specs.Descent.{take_token, take_maybe, ◌▸◌}
use Rattle.grammar.specs.Tokens.{is, is_name}
use Rattle.parse_leaves.specs.Groups.{group_missing, tested_cut, tested_whole}
use Rattle.parse_statements.proofs.tries.caught_group.Goals as goal

pub returns-in_default-caught_names : goal.returns-in_default-caught_names
returns-in_default-caught_names c =
    group_missing kind.OpenParenthesis (take_token is_name ▸ take_maybe (take_token (is kind.Comma) ▸ take_token is_name)) c.args.tokens.now c.in-Some.inside.now c.in-Some.rest.now c.in-Some.opening c.in-Some.ensures c.in_default-caught_names.ensures

pub returns-then-not-is_empty : goal.returns-then-not-is_empty
returns-then-not-is_empty c =
    tested_cut kind.OpenParenthesis (take_token is_name ▸ take_maybe (take_token (is kind.Comma) ▸ take_token is_name)) c.args.tokens.now c.in-Some.inside.now c.in-Some.rest.now c.in-Some-caught_names.left.now c.in-Some.opening c.in-Some-caught_names.found c.in-Some.ensures c.in-Some-caught_names.ensures (sym c.is_empty.ensures ∙ c.if-not-is_empty.true)

pub returns : goal.returns
returns c =
    tested_whole kind.OpenParenthesis (take_token is_name ▸ take_maybe (take_token (is kind.Comma) ▸ take_token is_name)) c.args.tokens.now c.in-Some.inside.now c.in-Some.rest.now c.in-Some-caught_names.left.now c.in-Some.opening c.in-Some-caught_names.found c.in-Some.ensures c.in-Some-caught_names.ensures (sym c.is_empty.ensures ∙ c.if-not-is_empty.false)
