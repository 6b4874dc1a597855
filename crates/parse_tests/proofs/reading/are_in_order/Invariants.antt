use Rattle.std.proofs.Common.{◌≤◌}
use Rattle.std.specs.List.{AllAdjacentBelow}
use Rattle.parse_tests.proofs.Orders.{IsBefore}
use Rattle.parse_tests.proofs.reading.are_in_order.Given as goal

-- the first tokens are in order
abbrev pub invariant-loop-place : goal.invariant-loop-place
invariant-loop-place l = AllAdjacentBelow IsBefore l.tokens l.place × (1 ≤ l.place)
