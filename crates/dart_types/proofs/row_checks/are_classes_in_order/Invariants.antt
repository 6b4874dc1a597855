use Rattle.std.proofs.Common.{◌≤◌}
use Rattle.dart_types.specs.declared.class_rows.ClassRow.{ClassRow}
use Rattle.dart_types.proofs.RowTests.{AreRising}
use Rattle.dart_types.proofs.row_checks.are_classes_in_order.Given as goal

-- the first ids rise
abbrev pub invariant-loop-i : goal.invariant-loop-i
invariant-loop-i l = AreRising (λ (row : ClassRow). row.id.lib.0) (λ (row : ClassRow). row.id.index) l.classes l.i × (1 ≤ l.i)
