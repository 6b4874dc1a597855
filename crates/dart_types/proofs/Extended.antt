-- Own rows over those below, and other rows, are libraries that may be put among those of rows.
use Rattle.std.proofs.Common.{◌≡◌, ℕ, true, false, List, sym, ◌∙◌, ap, subst, arith, inl, inr}
use Rattle.std.specs.Prelude.{◌⊎◌, AllPairs, Contains}
use Rattle.std.proofs.lemmas.Bool.{cases_lt}
use Rattle.std.proofs.lemmas.List.Elements.{All-contains, Contains-append_cases}
use Rattle.dart_types.specs.Tables.{Table}
use Rattle.dart_types.specs.WellFormed.{class_before, IsFormedClass, IsFormedVar, IsWellFormed}
use Rattle.dart_types.specs.Entries.{table_of, AreAmong, AreBeside}
use Rattle.dart_types.specs.Joined.{joined}
use Rattle.dart_types.specs.Libraries.{entries_in, vars_in, table_in, AreKept, AreClassesApart, AreVarsApart}
use Rattle.dart_types.specs.Others.{AreOthers}
use Rattle.dart_types.specs.Unions.{beside, IsFormedOver, IsUnion, IsView, HasClassOf, HasVarOf, AreViewsOfOne}
use Rattle.dart_types.specs.declared.class_rows.ClassRow.{ClassRow}
use Rattle.dart_types.specs.declared.class_rows.VarRow.{VarRow}
use Rattle.dart_types.specs.declared.entries.ClassEntry.{ClassEntry}
use Rattle.dart_types.specs.declared.class_libraries.LibraryClasses.{LibraryClasses}
use Rattle.dart_types.specs.declared.var_libraries.LibraryVars.{LibraryVars}
use Rattle.dart_types.proofs.EntryLemmas.{AllPairs-map}
use Rattle.dart_types.proofs.Filled.{row_of, Contains-map}
use Rattle.dart_types.proofs.Gathered.{all_from}
use Rattle.dart_types.proofs.Joined.{row_before, bound_before, puts_in_order, in_puts, puts_left, puts_right, wider_from, below_extends}
use Rattle.dart_types.proofs.Searches.{id_before, before_trans, before_from}
use Rattle.dart_types.proofs.Wider.{IsWider, class_wider, var_wider}

-- of two ids of different libraries one comes before the other
other_library : (a b c d : ℕ) → (a ≡ c → ⊥) → id_before c d a b ≡ false → id_before a b c d ≡ true
other_library a b c d other e =
    elim (cases_lt a c) as (λ _. id_before a b c d ≡ true) [
      | inl lt ↦ before_from a b c d (inl lt)
      | inr ge ↦ elim (cases_lt c a) as (λ _. id_before a b c d ≡ true) [
        | inl gt ↦ let k : true ≡ false = sym (before_from c d a b (inl gt)) ∙ e in cc
        | inr le ↦ absurd (other (omega arith))
      ]
    ]

module _ (below own : Table) (wf : IsWellFormed below) (f : IsFormedOver below own) where
  abbrev J : Table
  J = joined below own

  joined_classes_in_order : AllPairs (λ (a b : ClassRow). row_before a b ≡ true) J.classes
  joined_classes_in_order =
      puts_in_order row_before (λ x y z h k. before_trans x.id.lib.0 x.id.index y.id.lib.0 y.id.index z.id.lib.0 z.id.index h k) own.classes below.classes f.classes_in_order wf.classes_in_order
      (λ x y i j e. other_library x.id.lib.0 x.id.index y.id.lib.0 y.id.index
      (λ same. All-contains (λ (r : ClassRow). HasClassOf below r.id.lib → ⊥) own.classes x f.classes_apart i (y, j, λ k. record { 0 = sym same k })) e)

  joined_vars_in_order : AllPairs (λ (a b : VarRow). bound_before a b ≡ true) J.vars
  joined_vars_in_order =
      puts_in_order bound_before (λ x y z h k. before_trans x.var.lib.0 x.var.index y.var.lib.0 y.var.index z.var.lib.0 z.var.index h k) own.vars below.vars f.vars_in_order wf.vars_in_order
      (λ x y i j e. other_library x.var.lib.0 x.var.index y.var.lib.0 y.var.index
      (λ same. All-contains (λ (r : VarRow). HasVarOf below r.var.lib → ⊥) own.vars x f.vars_apart i (y, j, λ k. record { 0 = sym same k })) e)

  beside_wider : IsWider (beside below own) J
  beside_wider =
      wider_from (beside below own) J
      (record {
        classes = λ row i. elim (Contains-append_cases own.classes below.classes row i) as (λ _. Contains J.classes row) [ inl l ↦ puts_left row_before own.classes below.classes row l | inr r ↦ puts_right row_before own.classes below.classes row r ];
        vars = λ row i. elim (Contains-append_cases own.vars below.vars row i) as (λ _. Contains J.vars row) [ inl l ↦ puts_left bound_before own.vars below.vars row l | inr r ↦ puts_right bound_before own.vars below.vars row r ];
      }) joined_classes_in_order joined_vars_in_order

  wider_below : IsWider below J
  wider_below = wider_from below J (below_extends below own) joined_classes_in_order joined_vars_in_order

  -- own rows among those below are well formed
  pub formed_joined : IsWellFormed J
  formed_joined = record {
    classes_in_order = joined_classes_in_order;
    vars_in_order = joined_vars_in_order;
    classes = all_from (IsFormedClass J) J.classes (λ row i. elim (in_puts row_before own.classes below.classes row i) as (λ _. IsFormedClass J row) [
      | inl l ↦ class_wider (beside below own) J beside_wider row (All-contains (IsFormedClass (beside below own)) own.classes row f.classes l)
      | inr r ↦ class_wider below J wider_below row (All-contains (IsFormedClass below) below.classes row wf.classes r)
    ]);
    vars = all_from (IsFormedVar J) J.vars (λ row i. elim (in_puts bound_before own.vars below.vars row i) as (λ _. IsFormedVar J row) [
      | inl l ↦ var_wider (beside below own) J beside_wider row (All-contains (IsFormedVar (beside below own)) own.vars row f.vars l)
      | inr r ↦ var_wider below J wider_below row (All-contains (IsFormedVar below) below.vars row wf.vars r)
    ]);
  }

  pub are_among : AreAmong below own
  are_among = record { in_order = f.classes_in_order; formed = formed_joined }

-- own libraries
pub own_others : (below : Table) (wf : IsWellFormed below) (bs : List LibraryClasses) (xs : List LibraryVars) → IsFormedOver below (table_in bs xs) → AreClassesApart bs → AreVarsApart xs → AreBeside (joined below (table_in bs xs)) (entries_in bs) → AreOthers below bs xs
own_others below wf bs xs f classes vars lists = record {
  classes_apart = classes;
  vars_apart = vars;
  classes_in_order = AllPairs-map row_of (λ (a b : ClassRow). class_before a.id b.id ≡ true) (entries_in bs) f.classes_in_order;
  vars_in_order = f.vars_in_order;
  classes_agree = λ e i h. absurd (All-contains (λ (r : ClassRow). HasClassOf below r.id.lib → ⊥) (table_in bs xs).classes e.row f.classes_apart (Contains-map row_of (entries_in bs) e i) h);
  vars_agree = λ r i h. absurd (All-contains (λ (r : VarRow). HasVarOf below r.var.lib → ⊥) (vars_in xs) r f.vars_apart i h);
  among = joined below (table_in bs xs);
  formed = formed_joined below (table_in bs xs) wf f;
  beside = lists;
  class_rows = λ e i. puts_left row_before (table_in bs xs).classes below.classes e.row (Contains-map row_of (entries_in bs) e i);
  var_rows = λ r i. puts_left bound_before (vars_in xs) below.vars r i;
  no_other_class = λ r i. elim (in_puts row_before (table_in bs xs).classes below.classes r i) as (λ _. Contains below.classes r ⊎ Contains (table_in bs xs).classes r) [ inl l ↦ inr l | inr k ↦ inl k ];
  no_other_var = λ r i. elim (in_puts bound_before (vars_in xs) below.vars r i) as (λ _. Contains below.vars r ⊎ Contains (vars_in xs) r) [ inl l ↦ inr l | inr k ↦ inl k ];
}

-- the libraries of other rows
pub view_others : (table : Table) (bs : List LibraryClasses) (xs : List LibraryVars) → AreKept bs xs → IsWellFormed (table_in bs xs) → AreViewsOfOne table (table_in bs xs) → AreOthers table bs xs
view_others table bs xs kept wf views = record {
  classes_apart = kept.classes_apart;
  vars_apart = kept.vars_apart;
  classes_in_order = AllPairs-map row_of (λ (a b : ClassRow). class_before a.id b.id ≡ true) (entries_in bs) wf.classes_in_order;
  vars_in_order = wf.vars_in_order;
  classes_agree = λ e i h. views.left.classes e.row (views.right.within.classes e.row (Contains-map row_of (entries_in bs) e i)) h;
  vars_agree = λ r i h. views.left.vars r (views.right.within.vars r i) h;
  among = table_in bs xs;
  formed = wf;
  beside = kept.superinterfaces;
  class_rows = λ e i. Contains-map row_of (entries_in bs) e i;
  var_rows = λ r i. i;
  no_other_class = λ r i. inr i;
  no_other_var = λ r i. inr i;
}

module _ (below own : Table) (wf : IsWellFormed below) (f : IsFormedOver below own) (entries : List ClassEntry) (vars : List VarRow) (rows : table_of entries vars ≡ own) where
  -- own rows with no superinterfaces beside them yet, or with all
  pub entries_among : AreAmong below (table_of entries vars)
  entries_among = subst (λ (t : Table). AreAmong below t) (sym rows) (are_among below own wf f)

  pub entries_in_order : AllPairs (λ (a b : ClassEntry). class_before a.row.id b.row.id ≡ true) entries
  entries_in_order =
      AllPairs-map row_of (λ (a b : ClassRow). class_before a.id b.id ≡ true) entries
      (subst (λ (t : Table). AllPairs (λ (a b : ClassRow). class_before a.id b.id ≡ true) t.classes) (sym rows) f.classes_in_order)

  -- their libraries
  module _ (bs : List LibraryClasses) (xs : List LibraryVars) (as_entries : entries_in bs ≡ entries) (as_vars : vars_in xs ≡ vars) where
    pub libraries_table : table_in bs xs ≡ own
    libraries_table = ap (λ (es : List ClassEntry). table_of es (vars_in xs)) as_entries ∙ ap (λ (vs : List VarRow). table_of entries vs) as_vars ∙ rows

    pub libraries_others : AreClassesApart bs → AreVarsApart xs → AreBeside (joined below (table_of entries vars)) entries → AreOthers below bs xs
    libraries_others classes_apart vars_apart lists =
        own_others below wf bs xs (subst (λ (t : Table). IsFormedOver below t) (sym libraries_table) f) classes_apart vars_apart
        (subst (λ (t : Table). AreBeside (joined below t) (entries_in bs)) (rows ∙ sym libraries_table)
        (subst (λ (es : List ClassEntry). AreBeside (joined below (table_of entries vars)) es) (sym as_entries) lists))

-- own rows are of other libraries, so those below are a view of all
pub extended_view : (below own rows : Table) → IsFormedOver below own → IsUnion below own rows → IsView below rows
extended_view below own rows f union = record {
  within = record { classes = λ row i. (union.classes row).1 (inl i); vars = λ row i. (union.vars row).1 (inl i) };
  classes = λ row i h. elim ((union.classes row).0 i) as (λ _. Contains below.classes row) [
    | inl l ↦ l
    | inr r ↦ absurd (All-contains (λ (k : ClassRow). HasClassOf below k.id.lib → ⊥) own.classes row f.classes_apart r h)
  ];
  vars = λ row i h. elim ((union.vars row).0 i) as (λ _. Contains below.vars row) [
    | inl l ↦ l
    | inr r ↦ absurd (All-contains (λ (k : VarRow). HasVarOf below k.var.lib → ⊥) own.vars row f.vars_apart r h)
  ];
}
