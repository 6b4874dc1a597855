use Rattle.std.proofs.Common.{ℕ, arith, sym, ◌∙◌}
use Rattle.dart_types.specs.declared.class_rows.VarRow.{VarRow}
use Rattle.dart_types.proofs.RowTests.{rising_done, not_rising}
use Rattle.dart_types.proofs.Steps.{yes, no}
use Rattle.dart_types.proofs.row_checks.are_vars_in_order.Goals as goal

abbrev lib : VarRow → ℕ
lib row = row.var.lib.0

abbrev index : VarRow → ℕ
index row = row.var.index

pub returns-then-not-is_var_before : goal.returns-then-not-is_var_before
returns-then-not-is_var_before c =
    no (not_rising lib index c.args.vars.now c.loop-i.i c.index-vars-i.result c.index-vars-i-in-loop-i.result c.loop-i.invariant.1 (omega arith) (sym c.is_var_before.ensures ∙ c.if-not-is_var_before.true))

pub returns : goal.returns
returns c = yes (rising_done lib index c.args.vars.now c.loop-i.i (omega arith) c.loop-i.invariant.0)
