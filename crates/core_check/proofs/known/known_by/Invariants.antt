use Rattle.std.proofs.Common.{◌≡◌, drop}
use Rattle.core_check.specs.Known.{known_in}
use Rattle.core_check.proofs.known.known_by.Given as goal

abbrev pub invariant-loop-place : goal.invariant-loop-place
invariant-loop-place l = known_in l.facts.listed l.slot ≡ known_in (drop l.place l.facts.listed) l.slot
