use Rattle.std.proofs.Common.{◌+◌, ◌-◌, length}
use Rattle.namespaces.proofs.Searching.{Searching}
use Rattle.namespaces.proofs.search.exporting.Given as goal

-- what is found so far
abbrev pub invariant-loop-at : goal.invariant-loop-at
invariant-loop-at l = Searching l.libraries l.name l.to l.at l.search

-- the libraries that are left, and the places that are not looked at
abbrev pub decreases-loop-at : goal.decreases-loop-at
decreases-loop-at l = (l.search.left + length l.search.places.items) - l.at
