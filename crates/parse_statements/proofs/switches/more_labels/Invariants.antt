use Rattle.std.proofs.Common.{◌≡◌, ℕ, ◌+◌, ◌≤◌, ◌<◌, ◌∷◌, length, map, Some, option_map, drop, suc}
use Rattle.dart_tree.specs.Tree.{trees_of}
use Rattle.dart_tree.specs.Heights.{height, heights, fits}
use Rattle.readings.specs.Elements.{preceded}
use Rattle.grammar.specs.Descents.{lower, take_label}
use Rattle.readings.specs.Descent.{take_many, take_at_most}
use Rattle.parse_statements.proofs.switches.more_labels.Given as goal

abbrev pub invariant-loop-more : goal.invariant-loop-more
invariant-loop-more g l = record {
  reading : take_many (take_label (lower (g.B.Below.room l.below))) l.tokens ≡ preceded l.list.items (take_at_most l.more (take_label (lower (g.B.Below.room l.below))) l.rest);
  deep : l.height ≡ heights (trees_of l.list.items);
  within : l.height ≤ (g.B.Below.room l.below);
}

abbrev pub decreases-loop-more : goal.decreases-loop-more
decreases-loop-more g l = l.more
