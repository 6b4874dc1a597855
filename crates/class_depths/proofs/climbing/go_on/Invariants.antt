use Rattle.class_depths.specs.Climbing.{IsPartly}
use Rattle.class_depths.proofs.climbing.go_on.Given as goal

-- the longest way up over the direct supertypes so far
abbrev pub invariant-loop-i : goal.invariant-loop-i
invariant-loop-i l = IsPartly l.below.table l.declared (record { place = l.step.place; gone = l.i; depth = l.depth })
