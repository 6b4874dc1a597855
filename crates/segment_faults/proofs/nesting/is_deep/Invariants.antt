use Rattle.std.proofs.Common.{◌≡◌, ◌+◌, ◌-◌}
use Rattle.segment_faults.specs.Nesting.{any_place, groups_around, is_deep}
use Rattle.std.proofs.Common.{nat_lt}
use Rattle.segment_faults.proofs.nesting.is_deep.Given as goal

abbrev pub invariant-loop-place : goal.invariant-loop-place
invariant-loop-place l = is_deep l.tokens l.first l.count ≡ any_place (λ place. nat_lt 100 (groups_around place l.tokens)) l.place (l.first + l.count - l.place)
