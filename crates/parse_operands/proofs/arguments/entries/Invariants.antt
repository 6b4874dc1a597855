use Rattle.std.proofs.Common.{◌≡◌, ◌≤◌}
use Rattle.dart_tree.specs.Tree.{trees_of}
use Rattle.dart_tree.specs.Heights.{heights}
use Rattle.readings.specs.Elements.{preceded}
use Rattle.dart_tokens.specs.declared.token.Kind.TheVariants as kind
use Rattle.grammar.specs.Tokens.{is}
use Rattle.grammar.specs.Descents.{lower, take_entry}
use Rattle.readings.specs.Descent.{take_token, take_elements, take_at_most_elements}
use Rattle.parse_operands.proofs.arguments.entries.Given as goal

abbrev pub invariant-loop-more : goal.invariant-loop-more
invariant-loop-more g l = record {
  reading : take_elements (take_entry (lower (g.B.Below.room l.below))) (take_token (is kind.Comma)) l.tokens ≡ preceded l.list.items (take_at_most_elements l.more (take_entry (lower (g.B.Below.room l.below))) (take_token (is kind.Comma)) l.rest);
  deep : l.height ≡ heights (trees_of l.list.items);
  within : l.height ≤ (g.B.Below.room l.below);
}

abbrev pub decreases-loop-more : goal.decreases-loop-more
decreases-loop-more g l = l.more
