use Rattle.std.proofs.Common.{take}
use Rattle.std.specs.Prelude.{All}
use Rattle.dart_types.specs.Unions.{HasVarOf}
use Rattle.dart_types.specs.declared.class_rows.VarRow.{VarRow}
use Rattle.dart_types.proofs.row_checks.are_vars_apart.Given as goal

abbrev pub invariant-loop-row : goal.invariant-loop-row
invariant-loop-row l = All (λ (row : VarRow). HasVarOf l.below.table row.var.lib → ⊥) (take l.row-index l.vars)
