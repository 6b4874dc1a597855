use Rattle.std.proofs.Common.{take}
use Rattle.namespaces.specs.Namespaces.{AddsPair}
use Rattle.namespaces.proofs.export_tables.add_pairs.Given as goal

-- the places so far
abbrev pub invariant-loop-place : goal.invariant-loop-place
invariant-loop-place l = AddsPair (take l.place-index l.places) (record { name = l.name; element = l.element }) l.initial.all.items l.all.items
