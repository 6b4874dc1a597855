use Rattle.std.proofs.Common.{take}
use Rattle.std.specs.Prelude.{All}
use Rattle.dart_types.specs.Unions.{HasClassOf}
use Rattle.dart_types.specs.declared.class_rows.ClassRow.{ClassRow}
use Rattle.dart_types.proofs.row_checks.are_classes_apart.Given as goal

abbrev pub invariant-loop-row : goal.invariant-loop-row
invariant-loop-row l = All (λ (row : ClassRow). HasClassOf l.below.table row.id.lib → ⊥) (take l.row-index l.classes)
