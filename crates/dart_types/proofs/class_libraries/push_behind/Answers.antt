use Rattle.std.proofs.Common.{◌≡◌, ◌≤◌, ℕ, ◌++◌, ◌∷◌, [], List, true, refl, sym, ap, ◌∙◌, subst, arith, inl, inr}
use Rattle.dart_types.specs.Libraries.{AppendsClass}
use Rattle.dart_types.specs.WellFormed.{class_before}
use Rattle.dart_types.specs.declared.ids.LibId.{LibId}
use Rattle.dart_types.specs.declared.entries.ClassEntry.{ClassEntry}
use Rattle.dart_types.specs.declared.class_libraries.LibraryClasses.{LibraryClasses}
use Rattle.dart_types.proofs.Gathered.{on_ok}
use Rattle.dart_types.proofs.Groups.{appends_row, appends_new}
use Rattle.dart_types.proofs.Searches.{before_cases}
use Rattle.dart_types.proofs.class_libraries.push_behind.Goals as goal

abbrev lib : LibraryClasses → ℕ
lib l = l.lib.0

abbrev rows : LibraryClasses → List ClassEntry
rows l = l.entries.items

abbrev of : ClassEntry → ℕ
of e = e.row.id.lib.0

abbrev before : ClassEntry → ClassEntry → Type 0
before a b = class_before a.row.id b.row.id ≡ true

not_less : (a b : ClassEntry) → before a b → of a ≤ of b
not_less a b h =
    elim (before_cases a.row.id.lib.0 a.row.id.index b.row.id.lib.0 b.row.id.index h) as (λ _. of a ≤ of b) [ inl lt ↦ omega (arith, lt) | inr e ↦ omega (arith, e.0) ]

-- to the last library
pub returns-then-last-lib : goal.returns-then-last-lib
returns-then-last-lib c =
    let init = c.args.libraries.now.items in
    let x = c.args.entry in
    let last = c.args.last in
    let grown : LibraryClasses = record { lib = last.lib; entries = c.push.new.self } in
    subst (λ (gs : List LibraryClasses). AppendsClass (init ++ last ∷ []) x gs) (sym c.in_ok-push-2.ensures.items)
    (appends_row lib rows of before not_less x init last grown c.in_ok-push.ensures.items refl c.if-last-lib.true)

-- in a library behind it
pub returns : goal.returns
returns c =
    let init = c.args.libraries.now.items in
    let x = c.args.entry in
    let last = c.args.last in
    on_ok c.push_library.result c.push_library.ensures (λ a.
    let is = a.1 ∙ ap (λ (gs : List LibraryClasses). gs ++ a.0 ∷ []) c.in_ok-push-3.ensures.items in
    subst (λ (gs : List LibraryClasses). AppendsClass (init ++ last ∷ []) x gs) (sym is)
    (appends_new lib rows of before not_less x init last a.0 a.3 (ap (λ (l : LibId). l.0) a.2) c.if-last-lib.false))
