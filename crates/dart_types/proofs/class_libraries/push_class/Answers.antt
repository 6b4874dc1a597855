use Rattle.std.proofs.Common.{◌≡◌, ◌≤◌, ℕ, ◌++◌, ◌∷◌, [], List, length, true, sym, ap, ◌∙◌, subst, arith, inl, inr}
use Rattle.dart_types.specs.Libraries.{AppendsClass}
use Rattle.dart_types.specs.WellFormed.{class_before}
use Rattle.dart_types.specs.declared.ids.LibId.{LibId}
use Rattle.dart_types.specs.declared.entries.ClassEntry.{ClassEntry}
use Rattle.dart_types.specs.declared.class_libraries.LibraryClasses.{LibraryClasses}
use Rattle.dart_types.proofs.Gathered.{on_ok}
use Rattle.dart_types.proofs.Groups.{none_of, appends_first}
use Rattle.dart_types.proofs.Searches.{before_cases}
use Rattle.dart_types.proofs.class_libraries.push_class.Goals as goal

abbrev lib : LibraryClasses → ℕ
lib l = l.lib.0

abbrev rows : LibraryClasses → List ClassEntry
rows l = l.entries.items

abbrev of : ClassEntry → ℕ
of e = e.row.id.lib.0

abbrev before : ClassEntry → ClassEntry → Type 0
before a b = class_before a.row.id b.row.id ≡ true

not_less : (a b : ClassEntry) → before a b → of a ≤ of b
not_less a b h =
    elim (before_cases a.row.id.lib.0 a.row.id.index b.row.id.lib.0 b.row.id.index h) as (λ _. of a ≤ of b) [ inl lt ↦ omega (arith, lt) | inr e ↦ omega (arith, e.0) ]

-- no library stands there
pub returns-in-None : goal.returns-in-None
returns-in-None c =
    let x = c.args.entry in
    let new = c.push_library.new.libraries.items in
    let none : c.args.libraries.now.items ≡ [] = none_of c.args.libraries.now.items (let k : length c.args.libraries.now.items ≡ 0 = omega (arith, c.in-None.ensures.cases.0, c.args.libraries.now.ok.0) in k) in
    let left : c.pop.new.self.items ≡ [] = none_of c.pop.new.self.items (let k : length c.pop.new.self.items ≡ 0 = omega (arith, c.in-None.ensures.cases.1, c.pop.new.self.ok.0) in k) in
    on_ok c.push_library.result c.push_library.ensures (λ a.
    let is : new ≡ a.0 ∷ [] = a.1 ∙ ap (λ (gs : List LibraryClasses). gs ++ a.0 ∷ []) left in
    subst (λ (gs : List LibraryClasses). AppendsClass gs x new) (sym none)
    (subst (λ (gs : List LibraryClasses). AppendsClass [] x gs) (sym is) (appends_first lib rows of before not_less x a.0 a.3 (ap (λ (l : LibId). l.0) a.2))))
