-- What is looked up in rows by library.
use Rattle.std.proofs.Common.{◌≡◌, ℕ, Bor, true, List, Option, Some, None, nat_eq, sym, ◌∙◌, ap, subst}
use Rattle.std.specs.Prelude.{AllPairs, Contains, MatchOption, find}
use Rattle.std.specs.Option.{option_copied, option_map}
use Rattle.std.proofs.lemmas.List.Elements.{All-contains}
use Rattle.dart_types.specs.Same.{same_class, same_var}
use Rattle.dart_types.specs.Tables.{Table, class_of, bound_of}
use Rattle.dart_types.specs.WellFormed.{IsWellFormed, class_before, var_before}
use Rattle.dart_types.specs.Entries.{IsEntry}
use Rattle.dart_types.specs.Libraries.{entries_in, table_in, AreKept}
use Rattle.dart_types.specs.Superinterfaces.{AreSuperinterfaces}
use Rattle.dart_types.specs.Unions.{HasClassOf, HasVarOf}
use Rattle.dart_types.specs.declared.ids.ClassId.{ClassId}
use Rattle.dart_types.specs.declared.ids.VarId.{VarId}
use Rattle.dart_types.specs.declared.ids.LibId.{LibId}
use Rattle.dart_types.specs.declared.class_rows.ClassRow.{ClassRow}
use Rattle.dart_types.specs.declared.class_rows.VarRow.{VarRow}
use Rattle.dart_types.specs.declared.entries.ClassEntry.{ClassEntry}
use Rattle.dart_types.specs.declared.class_libraries.LibraryClasses.{LibraryClasses}
use Rattle.dart_types.specs.declared.var_libraries.LibraryVars.{LibraryVars}
use Rattle.dart_types.proofs.EntryLemmas.{find-map, AllPairs-map}
use Rattle.dart_types.proofs.Filled.{row_of, Contains-map}
use Rattle.dart_types.proofs.Formed.{found_in}
use Rattle.dart_types.proofs.Groups.{in_all, of_group, in_group, no_group, group_in_order, missed, nat_is, nat_same}
use Rattle.dart_types.proofs.Merged.{from_map}
use Rattle.dart_types.proofs.SameIds.{equal_from_same_class, equal_from_same_var}

abbrev lib_of_class : LibraryClasses → ℕ
lib_of_class l = l.lib.0

abbrev entries_of_library : LibraryClasses → List ClassEntry
entries_of_library l = l.entries.items

abbrev lib_of_entry : ClassEntry → ℕ
lib_of_entry e = e.row.id.lib.0

abbrev lib_of_vars : LibraryVars → ℕ
lib_of_vars l = l.lib.0

abbrev rows_of_library : LibraryVars → List VarRow
rows_of_library l = l.rows.items

abbrev lib_of_row : VarRow → ℕ
lib_of_row r = r.var.lib.0

module _ (classes : List LibraryClasses) (vars : List LibraryVars) (kept : AreKept classes vars) (wf : IsWellFormed (table_in classes vars)) where
  abbrev T : Table
  T = table_in classes vars

  module _ (c : ClassId) where
    its_lib : (e : ClassEntry) → same_class e.row.id c ≡ true → lib_of_entry e ≡ c.lib.0
    its_lib e h = ap (λ (d : ClassId). d.lib.0) (equal_from_same_class e.row.id c h)

    -- a class of a library that isn't there has no row
    pub no_class : None ≡ find (λ (l : LibraryClasses). nat_eq l.lib.0 c.lib.0) classes → class_of T c ≡ None
    no_class none =
        find-map row_of (λ (r : ClassRow). same_class r.id c) (entries_in classes)
        ∙ ap (option_map row_of) (no_group lib_of_class entries_of_library lib_of_entry (λ (e : ClassEntry). same_class e.row.id c) c.lib.0 its_lib classes kept.classes_apart none)

    module _ (library : LibraryClasses) (found : Some library ≡ find (λ (l : LibraryClasses). nat_eq l.lib.0 c.lib.0) classes) where
      there : Contains classes library
      there = (found_in (λ (l : LibraryClasses). nat_eq l.lib.0 c.lib.0) classes library (sym found)).0

      pub library_in_order : AllPairs (λ (a b : ClassEntry). class_before a.row.id b.row.id ≡ true) library.entries.items
      library_in_order =
          group_in_order lib_of_class entries_of_library lib_of_entry (λ (a b : ClassEntry). class_before a.row.id b.row.id ≡ true) classes
          (AllPairs-map row_of (λ (a b : ClassRow). class_before a.id b.id ≡ true) (entries_in classes) wf.classes_in_order) library there

      -- any other is looked up in its library
      pub class_in_library : class_of T c ≡ option_map row_of (find (λ (e : ClassEntry). same_class e.row.id c) library.entries.items)
      class_in_library =
          find-map row_of (λ (r : ClassRow). same_class r.id c) (entries_in classes)
          ∙ ap (option_map row_of) (in_group lib_of_class entries_of_library lib_of_entry (λ (e : ClassEntry). same_class e.row.id c) c.lib.0 its_lib classes kept.classes_apart library found)

      pub entry_in_library : (r : Option (Bor ClassEntry)) → option_copied r ≡ find (λ (e : ClassEntry). same_class e.row.id c) library.entries.items → MatchOption r (class_of T c ≡ None) (λ e. IsEntry T c e.now)
      entry_in_library None h = class_in_library ∙ ap (option_map row_of) (sym h)
      entry_in_library (Some e) h =
          let f = found_in (λ (x : ClassEntry). same_class x.row.id c) library.entries.items e.now (sym h) in
          let i = in_all lib_of_class entries_of_library lib_of_entry classes library e.now there f.0 in (
            class_in_library ∙ ap (option_map row_of) (sym h),
            subst (λ (d : ClassId). AreSuperinterfaces T d e.now.superinterfaces.items) (equal_from_same_class e.now.row.id c f.1)
                (All-contains (λ (x : ClassEntry). AreSuperinterfaces T x.row.id x.superinterfaces.items) (entries_in classes) e.now kept.superinterfaces i),
          )

  module _ (x : VarId) where
    var_lib : (r : VarRow) → same_var r.var x ≡ true → lib_of_row r ≡ x.lib.0
    var_lib r h = ap (λ (y : VarId). y.lib.0) (equal_from_same_var r.var x h)

    -- a type variable of a library that isn't there has no bound
    pub no_var : None ≡ find (λ (l : LibraryVars). nat_eq l.lib.0 x.lib.0) vars → bound_of T x ≡ None
    no_var none =
        ap (option_map (λ (r : VarRow). r.bound)) (no_group lib_of_vars rows_of_library lib_of_row (λ (r : VarRow). same_var r.var x) x.lib.0 var_lib vars kept.vars_apart none)

    module _ (library : LibraryVars) (found : Some library ≡ find (λ (l : LibraryVars). nat_eq l.lib.0 x.lib.0) vars) where
      pub vars_in_order_there : AllPairs (λ (a b : VarRow). var_before a.var b.var ≡ true) library.rows.items
      vars_in_order_there =
          group_in_order lib_of_vars rows_of_library lib_of_row (λ (a b : VarRow). var_before a.var b.var ≡ true) vars wf.vars_in_order library
          (found_in (λ (l : LibraryVars). nat_eq l.lib.0 x.lib.0) vars library (sym found)).0

      pub bound_in_library : bound_of T x ≡ option_map (λ (r : VarRow). r.bound) (find (λ (r : VarRow). same_var r.var x) library.rows.items)
      bound_in_library =
          ap (option_map (λ (r : VarRow). r.bound)) (in_group lib_of_vars rows_of_library lib_of_row (λ (r : VarRow). same_var r.var x) x.lib.0 var_lib vars kept.vars_apart library found)

  module _ (lib : LibId) where
    -- whether a library has rows
    pub has_classes : (library : LibraryClasses) → Some library ≡ find (λ (l : LibraryClasses). nat_eq l.lib.0 lib.0) classes → HasClassOf T lib
    has_classes library found =
        let f = found_in (λ (l : LibraryClasses). nat_eq l.lib.0 lib.0) classes library (sym found) in
        let e = kept.classes_apart.filled library f.0 in
        let own = kept.classes_apart.own library e.0 f.0 e.1 ∙ nat_is library.lib.0 lib.0 f.1 in
        (e.0.row, Contains-map row_of (entries_in classes) e.0 (in_all lib_of_class entries_of_library lib_of_entry classes library e.0 f.0 e.1), λ k. record { 0 = own k })

    pub has_no_classes : None ≡ find (λ (l : LibraryClasses). nat_eq l.lib.0 lib.0) classes → HasClassOf T lib → ⊥
    has_no_classes none h =
        let e = from_map row_of (entries_in classes) h.0 h.1 in
        let g = of_group lib_of_class entries_of_library lib_of_entry classes e.0 e.1 in
        let is : g.0.lib.0 ≡ lib.0 = sym (kept.classes_apart.own g.0 e.0 g.1 g.2) ∙ ap (λ (r : ClassRow). r.id.lib.0) e.2 ∙ ap (λ (l : LibId). l.0) h.2 in
        missed (λ (l : LibraryClasses). nat_eq l.lib.0 lib.0) classes g.0 g.1 (nat_same g.0.lib.0 lib.0 is) (sym none)

    pub has_vars : (library : LibraryVars) → Some library ≡ find (λ (l : LibraryVars). nat_eq l.lib.0 lib.0) vars → HasVarOf T lib
    has_vars library found =
        let f = found_in (λ (l : LibraryVars). nat_eq l.lib.0 lib.0) vars library (sym found) in
        let r = kept.vars_apart.filled library f.0 in
        let own = kept.vars_apart.own library r.0 f.0 r.1 ∙ nat_is library.lib.0 lib.0 f.1 in
        (r.0, in_all lib_of_vars rows_of_library lib_of_row vars library r.0 f.0 r.1, λ k. record { 0 = own k })

    pub has_no_vars : None ≡ find (λ (l : LibraryVars). nat_eq l.lib.0 lib.0) vars → HasVarOf T lib → ⊥
    has_no_vars none h =
        let g = of_group lib_of_vars rows_of_library lib_of_row vars h.0 h.1 in
        let is : g.0.lib.0 ≡ lib.0 = sym (kept.vars_apart.own g.0 h.0 g.1 g.2) ∙ ap (λ (l : LibId). l.0) h.2 in
        missed (λ (l : LibraryVars). nat_eq l.lib.0 lib.0) vars g.0 g.1 (nat_same g.0.lib.0 lib.0 is) (sym none)
