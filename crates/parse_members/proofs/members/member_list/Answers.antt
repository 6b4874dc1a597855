-- The members fill the braces.
use Rattle.dart_tokens.specs.declared.token.Kind.TheVariants as kind
use Rattle.dart_tree.specs.Tree.{Tree}
use Rattle.grammar.specs.Statements.{segment, error_of}
use Rattle.grammar.specs.Descents.{lower}
use Rattle.grammar.specs.DeclarationDescents.{take_member}
use Rattle.parse_leaves.specs.Groups.{inside_items}
use Rattle.parse_members.proofs.members.member_list.Goals as goal

pub returns : goal.returns
returns g c =
    inside_items {A = Tree} kind.OpenBrace (take_member c.args.in_core c.args.class (lower (g.B.Below.room c.args.below.now))) segment error_of c.args.tokens.now (c.in-Some.opening, (c.in-Some.inside.now, c.in-Some.rest.now)) c.in_ok-list.list.items c.in-Some.ensures c.in_ok-list.ensures
