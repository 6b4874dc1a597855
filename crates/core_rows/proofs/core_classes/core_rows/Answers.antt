use Rattle.std.proofs.Common.{◌≡◌, true, List, Err, ap, sym, ◌∙◌, subst}
use Rattle.std.specs.Prelude.{AllPairs}
use Rattle.dart_types.specs.WellFormed.{class_before}
use Rattle.class_depths.specs.declared.classes.DeclaredClass.{DeclaredClass}
use Rattle.class_depths.specs.declared.unextended.Unextended.{Unextended}
use Rattle.core_rows.specs.CoreTable.{core_classes}
use Rattle.core_rows.proofs.CoreFormed.{declared_in_order, depths_fit, formed_over, all_is}
use Rattle.core_rows.proofs.core_classes.core_rows.Goals as goal

pub extend_declared-requires : goal.extend_declared-requires
extend_declared-requires c = subst (λ (ds : List DeclaredClass). AllPairs (λ (a b : DeclaredClass). class_before a.id b.id ≡ true) ds) (sym (c.deref.ensures.value ∙ c.in_ok-classes.ensures)) declared_in_order

pub returns-in-Ok : goal.returns-in-Ok
returns-in-Ok c =
    let ok = c.in-Ok.ensures.ok in
    let rows = c.in-Ok.extended.rows in
    all_is c.none-none.result.table c.in_ok-vars.vars.items c.deref.result.now c.none-none.ensures c.in_ok-vars.ensures (c.deref.ensures.value ∙ c.in_ok-classes.ensures) ok.0 ok.1 rows.table rows.formed ok.3

pub unreachable-requires : goal.unreachable-requires
unreachable-requires c = c.in-Err-Cycle.ensures.none_fit c.in-Err-Cycle.field-0-0 (ap (λ (u : Unextended). Err u) c.in-Err-Cycle.field-0-is) core_classes (depths_fit c.none-none.result.table c.in_ok-vars.vars.items c.deref.result.now c.none-none.ensures c.in_ok-vars.ensures (c.deref.ensures.value ∙ c.in_ok-classes.ensures))

pub unreachable-requires-in-Err-Unformed : goal.unreachable-requires-in-Err-Unformed
unreachable-requires-in-Err-Unformed c =
    let told = c.in-Err-Unformed.ensures.unformed (ap (λ (u : Unextended). Err u) c.in-Err-Unformed.field-0-is) in
    told.2 (formed_over c.none-none.result.table c.in_ok-vars.vars.items c.deref.result.now c.none-none.ensures c.in_ok-vars.ensures (c.deref.ensures.value ∙ c.in_ok-classes.ensures) told.0 told.1)
