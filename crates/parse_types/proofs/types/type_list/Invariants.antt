use Rattle.std.proofs.Common.{◌≡◌, ℕ, ◌+◌, ◌≤◌, ◌<◌, ◌∷◌, length, map, Some, option_map, drop, suc}
use Rattle.dart_tree.specs.Tree.{trees_of}
use Rattle.dart_tree.specs.Heights.{height, heights, fits}
use Rattle.dart_tokens.specs.declared.token.Kind.TheVariants as kind
use Rattle.grammar.specs.Tokens.{is}
use Rattle.grammar.specs.Descents.{lower, take_separated}
use Rattle.readings.specs.Descent.{take_token, take_at_most, ◌▸◌}
use Rattle.parse_leaves.specs.Loops.{continued}
use Rattle.parse_types.proofs.types.type_list.Given as goal

abbrev pub invariant-loop-more : goal.invariant-loop-more
invariant-loop-more g l = record {
  reading : take_separated ((lower (g.B.Below.room l.below)).written) l.tokens ≡ continued l.list.items (take_at_most l.more (take_token (is kind.Comma) ▸ ((lower (g.B.Below.room l.below)).written)) l.rest);
  deep : l.height ≡ heights (trees_of l.list.items);
  within : l.height ≤ (g.B.Below.room l.below);
}

abbrev pub decreases-loop-more : goal.decreases-loop-more
decreases-loop-more g l = l.more
