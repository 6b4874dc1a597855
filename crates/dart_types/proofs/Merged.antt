-- Rows of libraries that were put among others: they are well formed, and beside each class stand its superinterfaces.
use Rattle.std.proofs.Common.{◌≡◌, ℕ, true, List, [], ◌∷◌, map, get_or, sym, ◌∙◌, subst, arith, inl, inr}
use Rattle.std.specs.Prelude.{◌⊎◌, AllPairs, Contains}
use Rattle.std.proofs.lemmas.List.{get_or-map, length-map}
use Rattle.std.proofs.lemmas.List.Elements.{All-contains}
use Rattle.dart_types.specs.Tables.{Table}
use Rattle.dart_types.specs.WellFormed.{class_before, var_before, IsFormedClass, IsFormedVar, IsWellFormed}
use Rattle.dart_types.specs.Groups.{PutsAll}
use Rattle.dart_types.specs.Libraries.{entries_in, vars_in, table_in, AreKept, AreClassesApart, AreVarsApart}
use Rattle.dart_types.specs.Others.{AreOthers}
use Rattle.dart_types.specs.Superinterfaces.{AreSuperinterfaces}
use Rattle.dart_types.specs.Unions.{IsUnion}
use Rattle.dart_types.specs.declared.class_rows.ClassRow.{ClassRow}
use Rattle.dart_types.specs.declared.class_rows.VarRow.{VarRow}
use Rattle.dart_types.specs.declared.entries.ClassEntry.{ClassEntry}
use Rattle.dart_types.specs.declared.class_libraries.LibraryClasses.{LibraryClasses}
use Rattle.dart_types.specs.declared.var_libraries.LibraryVars.{LibraryVars}
use Rattle.dart_types.proofs.EntryLemmas.{AllPairs-map}
use Rattle.dart_types.proofs.Filled.{row_of, Contains-map}
use Rattle.dart_types.proofs.Gathered.{all_from}
use Rattle.dart_types.proofs.Groups.{merged_apart, merged_from, merged_left, merged_right, merged_order, in_all}
use Rattle.dart_types.proofs.Joined.{wider_from, class_found}
pub use Rattle.dart_types.proofs.Lists.{from_map}
use Rattle.dart_types.proofs.Searches.{before_from}
use Rattle.dart_types.proofs.Wider.{IsWider, class_wider, var_wider, list_wider}

-- what holds of all pairs holds of the pairs of their images
pub map-pairs : {X Y : Type 0} (f : X → Y) (R : Y → Y → Type 0) (xs : List X) → AllPairs (λ (a b : X). R (f a) (f b)) xs → AllPairs R (map f xs)
map-pairs f R [] h i j d lt within = absurd (omega arith)
map-pairs {X} f R (x ∷ xs) h i j d lt within =
    let size = length-map (x ∷ xs) f in
    let a : f (get_or (x ∷ xs) i x) ≡ get_or (map f (x ∷ xs)) i d = sym (get_or-map f (x ∷ xs) i x d (omega (arith, size))) in
    let b : f (get_or (x ∷ xs) j x) ≡ get_or (map f (x ∷ xs)) j d = sym (get_or-map f (x ∷ xs) j x d (omega (arith, size))) in
    subst (λ y. R (get_or (map f (x ∷ xs)) i d) y) b (subst (λ y. R y (f (get_or (x ∷ xs) j x))) a (h i j x lt (omega (arith, size))))

module _ (ks : List LibraryClasses) (ws : List LibraryVars) (kept : AreKept ks ws) (wf : IsWellFormed (table_in ks ws)) (bs : List LibraryClasses) (xs : List LibraryVars) (others : AreOthers (table_in ks ws) bs xs) (us : List LibraryClasses) (vs : List LibraryVars) (cs : PutsAll (λ (l : LibraryClasses). l.lib.0) ks bs us) (ds : PutsAll (λ (l : LibraryVars). l.lib.0) ws xs vs) where
  abbrev A : Table
  A = table_in ks ws

  abbrev U : Table
  U = table_in us vs

  abbrev lib_of_class : LibraryClasses → ℕ
  lib_of_class l = l.lib.0

  abbrev entries_of_library : LibraryClasses → List ClassEntry
  entries_of_library l = l.entries.items

  abbrev lib_of_entry : ClassEntry → ℕ
  lib_of_entry e = e.row.id.lib.0

  abbrev lib_of_vars : LibraryVars → ℕ
  lib_of_vars l = l.lib.0

  abbrev rows_of_library : LibraryVars → List VarRow
  rows_of_library l = l.rows.items

  abbrev lib_of_row : VarRow → ℕ
  lib_of_row r = r.var.lib.0

  classes_apart : AreClassesApart us
  classes_apart = merged_apart lib_of_class entries_of_library lib_of_entry ks bs us cs kept.classes_apart others.classes_apart

  vars_apart : AreVarsApart vs
  vars_apart = merged_apart lib_of_vars rows_of_library lib_of_row ws xs vs ds kept.vars_apart others.vars_apart

  entries_in_order : AllPairs (λ (a b : ClassEntry). class_before a.row.id b.row.id ≡ true) (entries_in us)
  entries_in_order =
      merged_order lib_of_class entries_of_library lib_of_entry ks bs us cs kept.classes_apart others.classes_apart (λ (a b : ClassEntry). class_before a.row.id b.row.id ≡ true)
      (λ a b lt. before_from a.row.id.lib.0 a.row.id.index b.row.id.lib.0 b.row.id.index (inl lt))
      (AllPairs-map row_of (λ (a b : ClassRow). class_before a.id b.id ≡ true) (entries_in ks) wf.classes_in_order) others.classes_in_order

  pub rows_in_order : AllPairs (λ (a b : ClassRow). class_before a.id b.id ≡ true) U.classes
  rows_in_order = map-pairs row_of (λ (a b : ClassRow). class_before a.id b.id ≡ true) (entries_in us) entries_in_order

  pub vars_in_order : AllPairs (λ (a b : VarRow). var_before a.var b.var ≡ true) U.vars
  vars_in_order =
      merged_order lib_of_vars rows_of_library lib_of_row ws xs vs ds kept.vars_apart others.vars_apart (λ (a b : VarRow). var_before a.var b.var ≡ true)
      (λ a b lt. before_from a.var.lib.0 a.var.index b.var.lib.0 b.var.index (inl lt)) wf.vars_in_order others.vars_in_order

  left_classes : (row : ClassRow) → Contains A.classes row → Contains U.classes row
  left_classes row i =
      let e = from_map row_of (entries_in ks) row i in
      subst (λ (r : ClassRow). Contains U.classes r) e.2 (Contains-map row_of (entries_in us) e.0 (merged_left lib_of_class entries_of_library lib_of_entry ks bs us cs kept.classes_apart others.classes_apart e.0 e.1))

  left_vars : (row : VarRow) → Contains A.vars row → Contains U.vars row
  left_vars row i = merged_left lib_of_vars rows_of_library lib_of_row ws xs vs ds kept.vars_apart others.vars_apart row i

  -- a class of a library that both have stands in the table
  right_entries : (e : ClassEntry) → Contains (entries_in bs) e → Contains U.classes e.row
  right_entries e i =
      elim (merged_right lib_of_class entries_of_library lib_of_entry ks bs us cs kept.classes_apart others.classes_apart (λ (x : ClassEntry). Contains A.classes x.row)
      (λ g h x a b c same.
      let y = kept.classes_apart.filled h c in
      let l = kept.classes_apart.own h y.0 c y.1 in
      let m = others.classes_apart.own g x a b in
      let lib : y.0.row.id.lib ≡ x.row.id.lib = λ k. record { 0 = (l ∙ same ∙ sym m) k } in
      others.classes_agree x (in_all lib_of_class entries_of_library lib_of_entry bs g x a b)
      (y.0.row, Contains-map row_of (entries_in ks) y.0 (in_all lib_of_class entries_of_library lib_of_entry ks h y.0 c y.1), lib)) e i) as (λ _. Contains U.classes e.row) [
        | inl l ↦ Contains-map row_of (entries_in us) e l
        | inr r ↦ left_classes e.row r
      ]

  right_vars : (row : VarRow) → Contains (vars_in xs) row → Contains U.vars row
  right_vars row i =
      elim (merged_right lib_of_vars rows_of_library lib_of_row ws xs vs ds kept.vars_apart others.vars_apart (λ (x : VarRow). Contains A.vars x)
      (λ g h x a b c same.
      let y = kept.vars_apart.filled h c in
      let l = kept.vars_apart.own h y.0 c y.1 in
      let m = others.vars_apart.own g x a b in
      let lib : y.0.var.lib ≡ x.var.lib = λ k. record { 0 = (l ∙ same ∙ sym m) k } in
      others.vars_agree x (in_all lib_of_vars rows_of_library lib_of_row xs g x a b) (y.0, in_all lib_of_vars rows_of_library lib_of_row ws h y.0 c y.1, lib)) row i) as (λ _. Contains U.vars row) [
        | inl l ↦ l
        | inr r ↦ left_vars row r
      ]

  right_classes : (row : ClassRow) → Contains (table_in bs xs).classes row → Contains U.classes row
  right_classes row i = let e = from_map row_of (entries_in bs) row i in subst (λ (r : ClassRow). Contains U.classes r) e.2 (right_entries e.0 e.1)

  left_wider : IsWider A U
  left_wider = wider_from A U (record { classes = left_classes; vars = left_vars }) rows_in_order vars_in_order

  among_wider : IsWider others.among U
  among_wider =
      wider_from others.among U
      (record {
        classes = λ row i. elim (others.no_other_class row i) as (λ _. Contains U.classes row) [ inl l ↦ left_classes row l | inr r ↦ right_classes row r ];
        vars = λ row i. elim (others.no_other_var row i) as (λ _. Contains U.vars row) [ inl l ↦ left_vars row l | inr r ↦ right_vars row r ];
      }) rows_in_order vars_in_order

  entry_from : (e : ClassEntry) → Contains (entries_in us) e → Contains (entries_in ks) e ⊎ Contains (entries_in bs) e
  entry_from e i = merged_from lib_of_class entries_of_library lib_of_entry ks bs us cs kept.classes_apart others.classes_apart e i

  var_from : (row : VarRow) → Contains U.vars row → Contains (vars_in ws) row ⊎ Contains (vars_in xs) row
  var_from row i = merged_from lib_of_vars rows_of_library lib_of_row ws xs vs ds kept.vars_apart others.vars_apart row i

  -- the rows are well formed
  pub merged_formed : IsWellFormed U
  merged_formed = record {
    classes_in_order = rows_in_order;
    vars_in_order = vars_in_order;
    classes = all_from (IsFormedClass U) U.classes (λ row i.
        let e = from_map row_of (entries_in us) row i in
        subst (IsFormedClass U) e.2 (elim (entry_from e.0 e.1) as (λ _. IsFormedClass U e.0.row) [
          | inl l ↦ class_wider A U left_wider e.0.row (All-contains (IsFormedClass A) A.classes e.0.row wf.classes (Contains-map row_of (entries_in ks) e.0 l))
          | inr r ↦ class_wider others.among U among_wider e.0.row (All-contains (IsFormedClass others.among) others.among.classes e.0.row others.formed.classes (others.class_rows e.0 r))
        ]));
    vars = all_from (IsFormedVar U) U.vars (λ row i. elim (var_from row i) as (λ _. IsFormedVar U row) [
      | inl l ↦ var_wider A U left_wider row (All-contains (IsFormedVar A) A.vars row wf.vars l)
      | inr r ↦ var_wider others.among U among_wider row (All-contains (IsFormedVar others.among) others.among.vars row others.formed.vars (others.var_rows row r))
    ]);
  }

  -- and beside each class stand its superinterfaces
  pub merged_kept : AreKept us vs
  merged_kept = record {
    classes_apart = classes_apart;
    vars_apart = vars_apart;
    superinterfaces = all_from (λ (e : ClassEntry). AreSuperinterfaces U e.row.id e.superinterfaces.items) (entries_in us) (λ e i. elim (entry_from e i) as (λ _. AreSuperinterfaces U e.row.id e.superinterfaces.items) [
      | inl l ↦
          list_wider A U left_wider wf e.row.id e.row e.superinterfaces.items (class_found A.classes e.row wf.classes_in_order (Contains-map row_of (entries_in ks) e l))
          (All-contains (λ (x : ClassEntry). AreSuperinterfaces A x.row.id x.superinterfaces.items) (entries_in ks) e kept.superinterfaces l)
      | inr r ↦
          list_wider others.among U among_wider others.formed e.row.id e.row e.superinterfaces.items (class_found others.among.classes e.row others.formed.classes_in_order (others.class_rows e r))
          (All-contains (λ (x : ClassEntry). AreSuperinterfaces others.among x.row.id x.superinterfaces.items) (entries_in bs) e others.beside r)
    ]);
  }

  -- they are those of both
  pub merged_union : IsUnion A (table_in bs xs) U
  merged_union = record {
    classes = λ row. (
      (λ i. let e = from_map row_of (entries_in us) row i in
          elim (entry_from e.0 e.1) as (λ _. Contains A.classes row ⊎ Contains (table_in bs xs).classes row) [
            | inl l ↦ inl (subst (λ (r : ClassRow). Contains A.classes r) e.2 (Contains-map row_of (entries_in ks) e.0 l))
            | inr r ↦ inr (subst (λ (k : ClassRow). Contains (table_in bs xs).classes k) e.2 (Contains-map row_of (entries_in bs) e.0 r))
          ]),
      (λ h. elim h as (λ _. Contains U.classes row) [ inl l ↦ left_classes row l | inr r ↦ right_classes row r ]),
    );
    vars = λ row. (var_from row, (λ h. elim h as (λ _. Contains U.vars row) [ inl l ↦ left_vars row l | inr r ↦ right_vars row r ]));
  }
