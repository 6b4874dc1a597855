use Rattle.std.proofs.Common.{arith, sym, subst}
use Rattle.dart_types.specs.Unions.{HasVarOf}
use Rattle.dart_types.specs.declared.class_rows.VarRow.{VarRow}
use Rattle.dart_types.proofs.RowTests.{all_next, all_done}
use Rattle.dart_types.proofs.Steps.{yes, no, granted, refused}
use Rattle.dart_types.proofs.row_checks.are_vars_apart.Goals as goal

pub loop-row-preserved : goal.loop-row-preserved
loop-row-preserved c =
    all_next (λ (row : VarRow). HasVarOf c.args.below.now.table row.var.lib → ⊥) c.args.vars.now c.loop-row.row-index c.row-item.result c.loop-row-test.true c.row-item.is c.loop-row.invariant (refused c.has_vars_of.ensures c.if-has_vars_of.false)

-- one of a library below
pub returns-then-has_vars_of : goal.returns-then-has_vars_of
returns-then-has_vars_of c =
    no (λ h. subst (λ (row : VarRow). HasVarOf c.args.below.now.table row.var.lib → ⊥) (sym c.row-item.is) (h c.loop-row.row-index c.row-item.result c.loop-row-test.true) (granted c.has_vars_of.ensures c.if-has_vars_of.true))

pub returns : goal.returns
returns c =
    yes (all_done (λ (row : VarRow). HasVarOf c.args.below.now.table row.var.lib → ⊥) c.args.vars.now c.loop-row.row-index (omega arith) c.loop-row.invariant)
