use Rattle.std.proofs.Common.{arith, sym, subst}
use Rattle.dart_types.specs.Unions.{HasClassOf}
use Rattle.dart_types.specs.declared.class_rows.ClassRow.{ClassRow}
use Rattle.dart_types.proofs.RowTests.{all_next, all_done}
use Rattle.dart_types.proofs.Steps.{yes, no, granted, refused}
use Rattle.dart_types.proofs.row_checks.are_classes_apart.Goals as goal

pub loop-row-preserved : goal.loop-row-preserved
loop-row-preserved c =
    all_next (λ (row : ClassRow). HasClassOf c.args.below.now.table row.id.lib → ⊥) c.args.classes.now c.loop-row.row-index c.row-item.result c.loop-row-test.true c.row-item.is c.loop-row.invariant (refused c.has_classes_of.ensures c.if-has_classes_of.false)

-- one of a library below
pub returns-then-has_classes_of : goal.returns-then-has_classes_of
returns-then-has_classes_of c =
    no (λ h. subst (λ (row : ClassRow). HasClassOf c.args.below.now.table row.id.lib → ⊥) (sym c.row-item.is) (h c.loop-row.row-index c.row-item.result c.loop-row-test.true) (granted c.has_classes_of.ensures c.if-has_classes_of.true))

pub returns : goal.returns
returns c =
    yes (all_done (λ (row : ClassRow). HasClassOf c.args.below.now.table row.id.lib → ⊥) c.args.classes.now c.loop-row.row-index (omega arith) c.loop-row.invariant)
