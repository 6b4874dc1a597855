use Rattle.std.proofs.Common.{◌≡◌, take}
use Rattle.flow_model.proofs.pages.Locals.is_same.Given as goal

-- the locals before the place are the same
abbrev pub invariant-loop-i : goal.invariant-loop-i
invariant-loop-i l = take l.i l.self ≡ take l.i l.other
