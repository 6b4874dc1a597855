use Rattle.std.proofs.Common.{◌≡◌, ◌≤◌, ℕ, ◌++◌, ◌∷◌, [], List, true, refl, sym, ap, ◌∙◌, subst, arith, inl, inr}
use Rattle.dart_types.specs.Libraries.{AppendsVar}
use Rattle.dart_types.specs.WellFormed.{var_before}
use Rattle.dart_types.specs.declared.ids.LibId.{LibId}
use Rattle.dart_types.specs.declared.class_rows.VarRow.{VarRow}
use Rattle.dart_types.specs.declared.var_libraries.LibraryVars.{LibraryVars}
use Rattle.dart_types.proofs.Gathered.{on_ok}
use Rattle.dart_types.proofs.Groups.{appends_row, appends_new}
use Rattle.dart_types.proofs.Searches.{before_cases}
use Rattle.dart_types.proofs.var_libraries.push_behind.Goals as goal

abbrev lib : LibraryVars → ℕ
lib l = l.lib.0

abbrev rows : LibraryVars → List VarRow
rows l = l.rows.items

abbrev of : VarRow → ℕ
of e = e.var.lib.0

abbrev before : VarRow → VarRow → Type 0
before a b = var_before a.var b.var ≡ true

not_less : (a b : VarRow) → before a b → of a ≤ of b
not_less a b h =
    elim (before_cases a.var.lib.0 a.var.index b.var.lib.0 b.var.index h) as (λ _. of a ≤ of b) [ inl lt ↦ omega (arith, lt) | inr e ↦ omega (arith, e.0) ]

-- to the last library
pub returns-then-last-lib : goal.returns-then-last-lib
returns-then-last-lib c =
    let init = c.args.libraries.now.items in
    let x = c.args.row in
    let last = c.args.last in
    let grown : LibraryVars = record { lib = last.lib; rows = c.push.new.self } in
    subst (λ (gs : List LibraryVars). AppendsVar (init ++ last ∷ []) x gs) (sym c.in_ok-push-2.ensures.items)
    (appends_row lib rows of before not_less x init last grown c.in_ok-push.ensures.items refl c.if-last-lib.true)

-- in a library behind it
pub returns : goal.returns
returns c =
    let init = c.args.libraries.now.items in
    let x = c.args.row in
    let last = c.args.last in
    on_ok c.push_library.result c.push_library.ensures (λ a.
    let is = a.1 ∙ ap (λ (gs : List LibraryVars). gs ++ a.0 ∷ []) c.in_ok-push-3.ensures.items in
    subst (λ (gs : List LibraryVars). AppendsVar (init ++ last ∷ []) x gs) (sym is)
    (appends_new lib rows of before not_less x init last a.0 a.3 (ap (λ (l : LibId). l.0) a.2) c.if-last-lib.false))
