use Rattle.std.proofs.Common.{◌≡◌, take}
use Rattle.core_ir.proofs.facts.Facts.listed.Given as goal

-- the facts so far are copied
abbrev pub invariant-loop-place : goal.invariant-loop-place
invariant-loop-place l = l.listed.items ≡ take l.place l.self.listed
