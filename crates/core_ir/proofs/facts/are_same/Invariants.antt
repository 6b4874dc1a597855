use Rattle.std.proofs.Common.{◌≡◌, take}
use Rattle.core_ir.proofs.facts.are_same.Given as goal

-- the facts so far are the same
abbrev pub invariant-loop-place : goal.invariant-loop-place
invariant-loop-place l = take l.place l.first ≡ take l.place l.second
