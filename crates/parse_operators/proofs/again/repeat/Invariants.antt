use Rattle.std.proofs.Common.{◌≡◌, ◌≤◌, []}
use Rattle.readings.specs.Descent.{take_onto}
use Rattle.last_parts.specs.LastParts.{IsLast}
use Rattle.parse_operators.specs.Ends.{all_behind, behind_at, goes_on, joined}
use Rattle.parse_operators.proofs.again.repeat.Given as goal

abbrev pub invariant-loop-more : goal.invariant-loop-more
invariant-loop-more g l = record {
  reading : all_behind (g.B.Below.room l.below) l.level l.fn.left l.tokens ≡ take_onto [] l.more (goes_on (g.B.Below.room l.below)) joined (behind_at (g.B.Below.room l.below) l.level) l.extent l.rest;
  last : IsLast l.rest l.known.tokens;
  deep : l.extent.height ≤ 201;
  same : l.known ≡ l.initial.known;
  room : l.room ≡ g.B.Below.room l.below;
}

abbrev pub decreases-loop-more : goal.decreases-loop-more
decreases-loop-more g l = l.more
