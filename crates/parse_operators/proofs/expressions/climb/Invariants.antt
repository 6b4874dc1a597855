use Rattle.std.proofs.Common.{◌≡◌, ◌+◌, ◌≤◌, length, Some}
use Rattle.dart_tree.specs.Heights.{height}
use Rattle.grammar.specs.Descents.{lower}
use Rattle.parse_leaves.specs.Next.{next_level}
use Rattle.parse_operators.proofs.Climbing.{climbed}
use Rattle.parse_operators.proofs.expressions.climb.Given as goal

abbrev pub invariant-loop-more : goal.invariant-loop-more
invariant-loop-more g l = record {
  reading : climbed (g.B.Below.room l.below) l.setting (lower (g.B.Below.room l.below)) l.start l.more l.levels (l.fn.first, l.tokens) ≡ Some (l.left, l.rest);
  next : l.next ≡ next_level l.rest;
  few : l.more ≤ length l.levels;
  deep : l.height ≡ height l.left;
  within : l.height ≤ (g.B.Below.room l.below) + 1;
}

abbrev pub decreases-loop-more : goal.decreases-loop-more
decreases-loop-more g l = l.more
