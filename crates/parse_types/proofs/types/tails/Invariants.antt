use Rattle.std.proofs.Common.{◌≡◌, ℕ, ◌+◌, ◌≤◌, ◌<◌, ◌∷◌, length, map, Some, option_map, drop, suc}
use Rattle.dart_tree.specs.Heights.{height, heights, fits}
use Rattle.readings.specs.Descent.{take_onto}
use Rattle.grammar.specs.Descents.{lower, take_tail_before}
use Rattle.grammar.specs.Types.{next_tail_of}
use Rattle.parse_leaves.specs.Places.{question_of, ends_of}
use Rattle.parse_types.proofs.types.tails.Given as goal

abbrev pub invariant-loop-more : goal.invariant-loop-more
invariant-loop-more g l = record {
  reading : take_onto l.start (length l.tokens) (fits (g.B.Below.room l.below)) next_tail_of (take_tail_before (lower (g.B.Below.room l.below)) (question_of l.place) (ends_of l.place)) l.fn.first l.tokens ≡ take_onto l.start l.more (fits (g.B.Below.room l.below)) next_tail_of (take_tail_before (lower (g.B.Below.room l.below)) (question_of l.place) (ends_of l.place)) l.left l.rest;
  deep : l.height ≡ height l.left;
  within : l.height ≤ (g.B.Below.room l.below) + 1;
  known : l.room ≡ (g.B.Below.room l.below);
}

abbrev pub decreases-loop-more : goal.decreases-loop-more
decreases-loop-more g l = l.more
