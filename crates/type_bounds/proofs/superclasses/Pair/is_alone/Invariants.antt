use Rattle.std.proofs.Common.{take}
use Rattle.std.specs.Prelude.{All}
use Rattle.type_bounds.specs.Above.{AgreesWith}
use Rattle.type_bounds.proofs.superclasses.Pair.is_alone.Given as goal

-- those that were passed are the same type
abbrev pub invariant-loop-s : goal.invariant-loop-s
invariant-loop-s l = All (AgreesWith l.self l.top) (take l.s-index l.s-items)
