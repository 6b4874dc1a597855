use Rattle.std.proofs.Common.{◌≡◌, map, take}
use Rattle.dart_types.specs.declared.class_rows.ClassRow.{ClassRow}
use Rattle.dart_types.proofs.too_large.ids_of.Given as goal

abbrev pub invariant-loop-row : goal.invariant-loop-row
invariant-loop-row l = l.ids.items ≡ take l.row-index (map (λ (row : ClassRow). row.id) l.classes)
