use Rattle.std.proofs.Common.{◌≡◌, [], ◌∷◌, take, fold}
use Rattle.libraries.specs.Parts.{with_part}
use Rattle.libraries.proofs.parts.units_of.Given as goal

abbrev pub invariant-loop-aim : goal.invariant-loop-aim
invariant-loop-aim l = l.units ≡ fold (with_part l.heads l.library) (l.library ∷ []) (take l.aim-index l.aims)
