-- The name of a variable comes next, so it is variables.
use Rattle.std.proofs.Common.{sym, ◌∙◌}
use Rattle.grammar.specs.Descents.{lower}
use Rattle.grammar.specs.DeclarationDescents.{take_body}
use Rattle.parse_members.proofs.PlainForms.{plain_variables}
use Rattle.parse_members.proofs.plain.function_or_variables_behind.Goals as goal

pub returns : goal.returns
returns g c =
    rw (plain_variables (take_body c.args.bodies.in_core c.args.bodies.without_body (lower (g.B.Below.room c.args.below.now))) (lower (g.B.Below.room c.args.below.now)) c.args.start.now c.args.tokens.now c.args.written c.requires.read (sym c.heads_variable.ensures ∙ c.if-not-heads_variable.false))
    c.plain_variables_behind.ensures
