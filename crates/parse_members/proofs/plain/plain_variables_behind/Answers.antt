-- The `;` comes behind the variables.
use Rattle.std.proofs.Common.{rules, ◌≡◌, Some}
use Rattle.dart_tokens.specs.declared.token.Kind.TheVariants as kind
use Rattle.readings.specs.Descent.{take_token}
use Rattle.grammar.specs.Tokens.{is}
use Rattle.grammar.specs.Descents.{lower}
use Rattle.parse_members.proofs.PlainForms.{variables_found}
use Rattle.parse_members.proofs.plain.plain_variables_behind.Goals as goal

pub returns : goal.returns
returns g c =
    let ended : take_token (is kind.Semicolon) c.in_ok-variables.rest.now ≡ Some (c.in_ok-rest.field-0-0, c.in_ok-rest.rest.now) = search rules in
    variables_found (lower (g.B.Below.room c.args.below.now)) c.args.start.now c.args.tokens.now c.in_ok-variables.rest.now c.in_ok-rest.rest.now c.args.before c.in_ok-variables.variables c.in_ok-rest.field-0-0 c.requires.read c.in_ok-variables.ensures.reading ended
