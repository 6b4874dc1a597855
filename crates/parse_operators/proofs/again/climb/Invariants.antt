use Rattle.std.proofs.Common.{◌≡◌, ◌≤◌, [], drop, Some}
use Rattle.readings.specs.Descent.{climb}
use Rattle.grammar.specs.Operators.{table}
use Rattle.last_parts.specs.LastParts.{IsLast}
use Rattle.parse_operators.specs.Ends.{goes_on, joined, side_behind, times_seen}
use Rattle.parse_operators.proofs.again.climb.Given as goal

abbrev pub invariant-loop-more : goal.invariant-loop-more
invariant-loop-more g l = record {
  reading : climb times_seen (goes_on (g.B.Below.room l.below)) joined (side_behind (g.B.Below.room l.below)) [] (drop l.more table) (l.fn.left, l.tokens) ≡ Some (l.extent, l.rest);
  few : l.more ≤ 12;
  last : IsLast l.rest l.known.tokens;
  deep : l.extent.height ≤ 201;
  same : l.known ≡ l.initial.known;
}

abbrev pub decreases-loop-more : goal.decreases-loop-more
decreases-loop-more g l = l.more
