use Rattle.std.proofs.Common.{take}
use Rattle.std.specs.Prelude.{All}
use Rattle.type_bounds.proofs.OnePass.{IsBelow, IsFloorOver}
use Rattle.type_bounds.proofs.superclasses.Pair.top_under.Given as goal

-- the superinterfaces of both that were passed are below the floor, which is just above the top
abbrev pub invariant-loop-s : goal.invariant-loop-s
invariant-loop-s l = All (IsBelow l.self l.limit l.floor) (take l.s-index l.s-items) × IsFloorOver l.self l.limit l.top l.floor
