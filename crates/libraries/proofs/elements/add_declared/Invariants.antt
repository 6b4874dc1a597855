use Rattle.std.proofs.Common.{◌≡◌, ◌++◌, map, take}
use Rattle.libraries.specs.Elements.{declared_of}
use Rattle.libraries.proofs.elements.add_declared.Given as goal

abbrev pub invariant-loop-one : goal.invariant-loop-one
invariant-loop-one l = l.all.items ≡ l.initial.all.items ++ map declared_of (take l.one-index l.declared)
