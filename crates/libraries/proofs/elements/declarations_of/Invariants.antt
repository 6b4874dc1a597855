use Rattle.std.proofs.Common.{◌≡◌, ◌++◌, drop}
use Rattle.libraries.specs.Elements.{declarations_of}
use Rattle.libraries.proofs.elements.declarations_of.Given as goal

abbrev pub invariant-loop-place : goal.invariant-loop-place
invariant-loop-place l = l.all.items ++ declarations_of l.files (drop l.place-index l.places) ≡ declarations_of l.files l.places
