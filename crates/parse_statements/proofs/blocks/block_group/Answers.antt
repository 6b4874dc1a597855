-- The items fill the braces.
use Rattle.std.proofs.Common.{length, None}
use Rattle.dart_tokens.specs.declared.token.Kind.TheVariants as kind
use Rattle.dart_tree.specs.Tree.{Tree}
use Rattle.grammar.specs.Statements.{error_of}
use Rattle.parse_leaves.specs.Groups.{inside_items}
use Rattle.parse_statements.proofs.blocks.block_group.Goals as goal

pub returns-clause-reading : goal.returns-clause-reading
returns-clause-reading c =
    inside_items {A = Tree} kind.OpenBrace (λ ts. None) length error_of c.args.tokens.now (c.in-Some.opening, (c.in-Some.inside.now, c.in-Some.rest.now)) c.in_ok-list.list.items c.in-Some.ensures c.in_ok-list.ensures.reading
