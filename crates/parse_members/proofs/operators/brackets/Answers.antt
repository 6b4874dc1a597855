-- What stands between the brackets is nothing.
use Rattle.std.proofs.Common.{List, [], refl, sym, ◌∙◌}
use Rattle.dart_tokens.specs.declared.token.Kind.TheVariants as kind
use Rattle.readings.specs.Descent.{take_given}
use Rattle.dart_tokens.specs.declared.grouped_token.GroupedToken.{GroupedToken as Token}
use Rattle.parse_leaves.specs.Groups.{tested_cut, tested_whole}
use Rattle.parse_members.proofs.operators.brackets.Goals as goal

pub returns-then-not-is_empty : goal.returns-then-not-is_empty
returns-then-not-is_empty c =
    tested_cut kind.OpenBracket (take_given {A = List Token} []) c.args.tokens.now c.in_ok-opening.inside.now c.in_ok-opening.rest.now c.in_ok-opening.inside.now c.in_ok-opening.opening [] c.in_ok-opening.ensures refl (sym c.is_empty.ensures ∙ c.if-not-is_empty.true)

pub returns : goal.returns
returns c =
    tested_whole kind.OpenBracket (take_given {A = List Token} []) c.args.tokens.now c.in_ok-opening.inside.now c.in_ok-opening.rest.now c.in_ok-opening.inside.now c.in_ok-opening.opening [] c.in_ok-opening.ensures refl (sym c.is_empty.ensures ∙ c.if-not-is_empty.false)
