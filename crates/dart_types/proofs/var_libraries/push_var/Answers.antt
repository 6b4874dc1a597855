use Rattle.std.proofs.Common.{◌≡◌, ◌≤◌, ℕ, ◌++◌, ◌∷◌, [], List, length, true, sym, ap, ◌∙◌, subst, arith, inl, inr}
use Rattle.dart_types.specs.Libraries.{AppendsVar}
use Rattle.dart_types.specs.WellFormed.{var_before}
use Rattle.dart_types.specs.declared.ids.LibId.{LibId}
use Rattle.dart_types.specs.declared.class_rows.VarRow.{VarRow}
use Rattle.dart_types.specs.declared.var_libraries.LibraryVars.{LibraryVars}
use Rattle.dart_types.proofs.Gathered.{on_ok}
use Rattle.dart_types.proofs.Groups.{none_of, appends_first}
use Rattle.dart_types.proofs.Searches.{before_cases}
use Rattle.dart_types.proofs.var_libraries.push_var.Goals as goal

abbrev lib : LibraryVars → ℕ
lib l = l.lib.0

abbrev rows : LibraryVars → List VarRow
rows l = l.rows.items

abbrev of : VarRow → ℕ
of e = e.var.lib.0

abbrev before : VarRow → VarRow → Type 0
before a b = var_before a.var b.var ≡ true

not_less : (a b : VarRow) → before a b → of a ≤ of b
not_less a b h =
    elim (before_cases a.var.lib.0 a.var.index b.var.lib.0 b.var.index h) as (λ _. of a ≤ of b) [ inl lt ↦ omega (arith, lt) | inr e ↦ omega (arith, e.0) ]

-- no library stands there
pub returns-in-None : goal.returns-in-None
returns-in-None c =
    let x = c.args.row in
    let new = c.push_library.new.libraries.items in
    let none : c.args.libraries.now.items ≡ [] = none_of c.args.libraries.now.items (let k : length c.args.libraries.now.items ≡ 0 = omega (arith, c.in-None.ensures.cases.0, c.args.libraries.now.ok.0) in k) in
    let left : c.pop.new.self.items ≡ [] = none_of c.pop.new.self.items (let k : length c.pop.new.self.items ≡ 0 = omega (arith, c.in-None.ensures.cases.1, c.pop.new.self.ok.0) in k) in
    on_ok c.push_library.result c.push_library.ensures (λ a.
    let is : new ≡ a.0 ∷ [] = a.1 ∙ ap (λ (gs : List LibraryVars). gs ++ a.0 ∷ []) left in
    subst (λ (gs : List LibraryVars). AppendsVar gs x new) (sym none)
    (subst (λ (gs : List LibraryVars). AppendsVar [] x gs) (sym is) (appends_first lib rows of before not_less x a.0 a.3 (ap (λ (l : LibId). l.0) a.2))))
