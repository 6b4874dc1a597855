use Rattle.std.proofs.Common.{◌≡◌, ℕ, ◌+◌, ◌≤◌, ◌<◌, ◌∷◌, length, map, Some, option_map, drop, suc}
use Rattle.dart_tree.specs.Tree.{trees_of}
use Rattle.dart_tree.specs.Heights.{height, heights, fits}
use Rattle.readings.specs.Elements.{preceded}
use Rattle.grammar.specs.Descents.{lower, take_annotation}
use Rattle.readings.specs.Descent.{take_many, take_at_most}
use Rattle.parse_types.proofs.parameters.annotations.Given as goal

abbrev pub invariant-loop-more : goal.invariant-loop-more
invariant-loop-more l = take_many take_annotation l.tokens ≡ preceded l.list.items (take_at_most l.more take_annotation l.rest)

abbrev pub decreases-loop-more : goal.decreases-loop-more
decreases-loop-more l = l.more
