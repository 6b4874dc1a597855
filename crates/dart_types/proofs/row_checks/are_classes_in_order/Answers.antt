use Rattle.std.proofs.Common.{ℕ, arith, sym, ◌∙◌}
use Rattle.dart_types.specs.declared.class_rows.ClassRow.{ClassRow}
use Rattle.dart_types.proofs.RowTests.{rising_done, not_rising}
use Rattle.dart_types.proofs.Steps.{yes, no}
use Rattle.dart_types.proofs.row_checks.are_classes_in_order.Goals as goal

abbrev lib : ClassRow → ℕ
lib row = row.id.lib.0

abbrev index : ClassRow → ℕ
index row = row.id.index

pub returns-then-not-is_class_before : goal.returns-then-not-is_class_before
returns-then-not-is_class_before c =
    no (not_rising lib index c.args.classes.now c.loop-i.i c.index-classes-i.result c.index-classes-i-in-loop-i.result c.loop-i.invariant.1 (omega arith) (sym c.is_class_before.ensures ∙ c.if-not-is_class_before.true))

pub returns : goal.returns
returns c = yes (rising_done lib index c.args.classes.now c.loop-i.i (omega arith) c.loop-i.invariant.0)
