use Rattle.std.proofs.Common.{◌≡◌, map, take}
use Rattle.libraries.specs.Aims.{aim_of}
use Rattle.libraries.proofs.aims.aims_in.Given as goal

abbrev pub invariant-loop-directive : goal.invariant-loop-directive
invariant-loop-directive l = l.aims.items ≡ map (aim_of l.packages l.paths l.path) (take l.directive-index l.directives)
