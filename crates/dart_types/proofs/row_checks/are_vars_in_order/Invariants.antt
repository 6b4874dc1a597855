use Rattle.std.proofs.Common.{◌≤◌}
use Rattle.dart_types.specs.declared.class_rows.VarRow.{VarRow}
use Rattle.dart_types.proofs.RowTests.{AreRising}
use Rattle.dart_types.proofs.row_checks.are_vars_in_order.Given as goal

-- the first ids rise
abbrev pub invariant-loop-i : goal.invariant-loop-i
invariant-loop-i l = AreRising (λ (row : VarRow). row.var.lib.0) (λ (row : VarRow). row.var.index) l.vars l.i × (1 ≤ l.i)
