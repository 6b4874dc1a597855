use Rattle.std.proofs.Common.{◌≡◌, rules, List, Err, map, filter, ap, ◌∙◌, sym, subst}
use Rattle.dart_types.specs.Kept.{forms_too_large}
use Rattle.dart_types.specs.Tables.{Table}
use Rattle.dart_types.specs.Unions.{IsFormedOver}
use Rattle.dart_types.specs.declared.class_rows.ClassRow.{ClassRow}
use Rattle.dart_types.specs.declared.class_rows.VarRow.{VarRow}
use Rattle.class_depths.specs.declared.classes.DeclaredClass.{DeclaredClass}
use Rattle.class_depths.specs.declared.unsettled.Unsettled.{Unsettled}
use Rattle.class_depths.proofs.Refused.{named, same_ids}
use Rattle.class_depths.proofs.extending.extend_declared.Goals as goal

pub returns-in_err-rows-clause-none_fit : goal.returns-in_err-rows-clause-none_fit
returns-in_err-rows-clause-none_fit c = λ class e rows fits. c.in_err-rows.ensures.none_fit class (ap (λ (u : Unsettled). Err u) (named c.in_err-rows.field-0.0 c.from_residual.result class c.from_residual.ensures.1 e)) c.args.vars.items rows fits

-- what is tested is whether these rows are formed
formed_as : (below : Table) (classes classes' : List ClassRow) (vars vars' : List VarRow) → classes ≡ classes' → vars ≡ vars' → IsFormedOver below (record { classes = classes; vars = vars }) → IsFormedOver below (record { classes = classes'; vars = vars' })
formed_as below classes classes' vars vars' e f h = let own : record { classes = classes; vars = vars } ≡ record { classes = classes'; vars = vars' } = (λ k. record { classes = e k; vars = f k }) in subst (λ (t : Table). IsFormedOver below t) own h

pub returns-then-not-takes-clause-unformed : goal.returns-then-not-takes-clause-unformed
returns-then-not-takes-clause-unformed c = λ e.
    let rows : c.in_ok-rows.rows.items ≡ c.deref.result.now = search rules in
    let vars : c.args.vars.items ≡ c.deref-2.result.now = search rules in
    let taken : IsFormedOver c.args.below.now.table (record { classes = c.deref.result.now; vars = c.deref-2.result.now }) → ⊥ = λ h. search rules in
    (c.in_ok-rows.rows.items, c.in_ok-rows.ensures.ok c.args.vars.items, λ h. taken (formed_as c.args.below.now.table c.in_ok-rows.rows.items c.deref.result.now c.args.vars.items c.deref-2.result.now rows vars h))

pub returns-clause-ok : goal.returns-clause-ok
returns-clause-ok c =
    let rows : c.deref.result.now ≡ c.in_ok-rows.rows.items = search rules in
    let vars : c.deref-2.result.now ≡ c.args.vars.items = search rules in
    let taken : IsFormedOver c.args.below.now.table (record { classes = c.deref.result.now; vars = c.deref-2.result.now }) = search rules in
    (c.in_ok-rows.rows.items, c.in_ok-rows.ensures.ok c.args.vars.items, formed_as c.args.below.now.table c.deref.result.now c.in_ok-rows.rows.items c.deref-2.result.now c.args.vars.items rows vars taken, c.in_ok-extended.ensures.ok)

pub returns-clause-too_large : goal.returns-clause-too_large
returns-clause-too_large c =
    let s = c.in_ok-rows.ensures.ok c.args.vars.items in
    let ids : map (λ (row : ClassRow). row.id) c.in_ok-rows.rows.items ≡ map (λ (class : DeclaredClass). class.id) c.args.declared.now =
    sym (same_ids c.in_ok-rows.rows.items) ∙ ap (map (λ (class : DeclaredClass). class.id)) s.settled.same in
    c.in_ok-extended.ensures.too_large ∙ ap (filter (forms_too_large c.in_ok-extended.extended.rows.table)) ids
