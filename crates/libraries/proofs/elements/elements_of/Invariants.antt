use Rattle.std.proofs.Common.{◌≡◌, ◌++◌, drop}
use Rattle.libraries.specs.Elements.{elements_from}
use Rattle.libraries.proofs.elements.elements_of.Given as goal

abbrev pub invariant-loop-place : goal.invariant-loop-place
invariant-loop-place l = l.elements.items ++ elements_from l.files l.heads l.all l.place (drop l.place l.files) ≡ elements_from l.files l.heads l.all 0 l.files
