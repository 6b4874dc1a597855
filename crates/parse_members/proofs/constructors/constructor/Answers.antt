-- What comes behind the parameters isn't the rest of a constructor.
use Rattle.std.proofs.Common.{rules, ◌≡◌, Some, sym, ◌∙◌}
use Rattle.grammar.specs.Descents.{lower}
use Rattle.grammar.specs.DeclarationDescents.{take_constructor_name}
use Rattle.parse_members.proofs.ConstructorRests.{no_constructor}
use Rattle.parse_members.proofs.constructors.constructor.Goals as goal

pub returns-then-not-heads_constructor : goal.returns-then-not-heads_constructor
returns-then-not-heads_constructor g c =
    let named : take_constructor_name c.args.class c.args.tokens.now ≡ Some (c.in_ok-name.name, c.in_ok-name.rest.now) = search rules in
    no_constructor c.args.class (lower (g.B.Below.room c.args.below.now)) c.args.tokens.now c.in_ok-name.rest.now c.in_ok-name.name named (sym c.heads_constructor.ensures ∙ c.if-not-heads_constructor.true)
