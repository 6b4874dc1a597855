use Rattle.std.proofs.Common.{nat_eq}
use Rattle.std.specs.HashMap.{get}
use Rattle.namespaces.proofs.PlaceTables.{Tabled}
use Rattle.namespaces.proofs.place_tables.place_table.Given as goal

-- the table of the libraries so far
abbrev pub invariant-loop-place : goal.invariant-loop-place
invariant-loop-place l = Tabled l.libraries l.place (get nat_eq l.places)
