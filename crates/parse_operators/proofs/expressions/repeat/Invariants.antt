use Rattle.std.proofs.Common.{◌≡◌, ◌+◌, ◌≤◌}
use Rattle.dart_tree.specs.Heights.{height}
use Rattle.readings.specs.Descent.{take_onto}
use Rattle.grammar.specs.Descents.{lower, take_right}
use Rattle.grammar.specs.Expressions.{times_behind, side_with, is_open}
use Rattle.parse_operators.proofs.expressions.repeat.Given as goal

abbrev pub invariant-loop-more : goal.invariant-loop-more
invariant-loop-more g l = record {
  reading : take_onto l.start (times_behind l.setting l.level l.fn.first l.tokens) (is_open (g.B.Below.room l.below)) side_with (take_right l.setting (lower (g.B.Below.room l.below)) l.level l.above) l.fn.first l.tokens ≡ take_onto l.start l.more (is_open (g.B.Below.room l.below)) side_with (take_right l.setting (lower (g.B.Below.room l.below)) l.level l.above) l.left l.rest;
  deep : l.height ≡ height l.left;
  within : l.height ≤ (g.B.Below.room l.below) + 1;
  known : l.room ≡ (g.B.Below.room l.below);
}

abbrev pub decreases-loop-more : goal.decreases-loop-more
decreases-loop-more g l = l.more
