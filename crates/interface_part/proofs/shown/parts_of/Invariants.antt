use Rattle.std.proofs.Common.{◌≡◌, ◌++◌, drop}
use Rattle.interface_part.specs.Interface.{parts_of}
use Rattle.interface_part.proofs.shown.parts_of.Given as goal

abbrev pub invariant-loop-range : goal.invariant-loop-range
invariant-loop-range l = parts_of l.words l.hidden l.tokens ≡ l.part ++ parts_of l.words (drop l.range-index l.hidden) l.rest
