-- Superinterfaces that are put beside one class after another.
use Rattle.std.proofs.Common.{◌≡◌, ℕ, ◌+◌, ◌<◌, ◌≤◌, List, length, take, set, map, get_or, Some, sym, ◌∙◌, ap, subst, arith, inl, inr}
use Rattle.std.specs.Prelude.{◌⊎◌, All, Result, Ok, Err, OnOk}
use Rattle.std.proofs.Math.Seq.{map-set_same}
use Rattle.std.proofs.lemmas.Bool.{cases_eq, cases_lt}
use Rattle.std.proofs.lemmas.List.{get_or_default, get_or-map, length-map, get_or-set_same, get_or-set_other, length-set, get_or-take, length-take}
use Rattle.dart_types.specs.Tables.{Table, class_of}
use Rattle.dart_types.specs.WellFormed.{IsWellFormed}
use Rattle.dart_types.specs.Superinterfaces.{AreSuperinterfaces}
use Rattle.dart_types.specs.FormedProp.{IsWellFormed-prop}
use Rattle.dart_types.specs.FormedTable.{FormedTable}
use Rattle.dart_types.specs.Entries.{table_of, among, AreAmong, AreBeside}
use Rattle.dart_types.specs.Joined.{joined}
use Rattle.dart_types.specs.Gathering.{AreKnownBelow, AreKnownTo}
use Rattle.dart_types.specs.declared.class_rows.ClassRow.{ClassRow}
use Rattle.dart_types.specs.declared.class_rows.VarRow.{VarRow}
use Rattle.dart_types.specs.declared.entries.ClassEntry.{ClassEntry}
pub use Rattle.dart_types.proofs.Lists.{Contains-map}
use Rattle.dart_types.proofs.Joined.{class_found}

abbrev pub row_of : ClassEntry → ClassRow
row_of entry = entry.row

-- beside the class of the entry stand its superinterfaces
abbrev IsBeside : Table → ClassEntry → Type 0
IsBeside table entry = AreSuperinterfaces table entry.row.id entry.superinterfaces.items

-- the same rows are of as many entries
pub as_long : (a b : List ClassEntry) (vars : List VarRow) → table_of a vars ≡ table_of b vars → length a ≡ length b
as_long a b vars same = sym (length-map a row_of) ∙ ap (λ (table : Table). length table.classes) same ∙ length-map b row_of

module _ (below : Table) (entries : List ClassEntry) (vars : List VarRow) where
  pub entry_row : AreAmong below (table_of entries vars) → (i : ℕ) (d : ClassEntry) → i < length entries → class_of (table_of entries vars) (get_or entries i d).row.id ≡ Some (get_or entries i d).row
  entry_row wf i d lt =
      class_found (map row_of entries) (get_or entries i d).row wf.in_order
      (i, rw (length-map entries row_of) lt, get_or_default (map row_of entries) i (get_or entries i d).row d.row (rw (length-map entries row_of) lt) ∙ get_or-map row_of entries i d d.row lt)

  -- an entry is replaced by one with the same row
  pub same_table : (i : ℕ) (d e : ClassEntry) → e.row ≡ (get_or entries i d).row → table_of (set entries i e) vars ≡ table_of entries vars
  same_table i d e h = ap (λ (rows : List ClassRow). record { classes = rows; vars = vars }) (map-set_same row_of entries i e d h)

  -- the rows stay the same, and all rows with them
  pub same_among : (i : ℕ) (d e : ClassEntry) → e.row ≡ (get_or entries i d).row → among below (set entries i e) vars ≡ among below entries vars
  same_among i d e h = ap (joined below) (same_table i d e h)

  module _ (table : Table) (depth : ℕ) where
    pub none_passed : AreKnownBelow depth table entries → AreKnownTo depth 0 table entries
    none_passed known = record { below = known; passed = λ k d lt. absurd (omega arith) }

    pub all_passed : (i : ℕ) → length entries ≤ i → AreKnownTo depth i table entries → AreKnownBelow (depth + 1) table entries
    all_passed i end known k d lt lower =
        let e = get_or entries k d in
        elim (cases_lt e.row.depth depth) as (λ _. IsBeside table e) [
          | inl less ↦ known.below k d lt less
          | inr from ↦
              let there = get_or-take i entries k d (omega arith) in
              let short : k < length (take i entries) = rw (length-take i entries) (omega arith) in
              let deep : (get_or (take i entries) k d).row.depth ≡ depth = rw there (omega arith) in
              subst (IsBeside table) there (known.passed k d short deep)
        ]

    -- the class at the place isn't as far
    pub passed_by : (i : ℕ) (d : ClassEntry) → i < length entries → ((get_or entries i d).row.depth ≡ depth → ⊥) → AreKnownTo depth i table entries → AreKnownTo depth (i + 1) table entries
    passed_by i d lt other known = record {
      below = known.below;
      passed = λ k e short deep. at k e short deep (cases_eq k i);
    }
      where
        at : (k : ℕ) (e : ClassEntry) → k < length (take (i + 1) entries) → (get_or (take (i + 1) entries) k e).row.depth ≡ depth → (k ≡ i) ⊎ (k ≡ i → ⊥) → IsBeside table (get_or (take (i + 1) entries) k e)
        at k e short deep (inl is) =
            let size = length-take (i + 1) entries in
            let there = get_or-take (i + 1) entries k e (omega (arith, size)) in
            let same : get_or (take (i + 1) entries) k e ≡ get_or entries i d = there ∙ ap (λ (n : ℕ). get_or entries n e) is ∙ get_or_default entries i e d lt in
            absurd (other (sym (ap (λ (x : ClassEntry). x.row.depth) same) ∙ deep))
        at k e short deep (inr not) =
            let size = length-take (i + 1) entries in
            let before : k < i = omega (arith, size) in
            let there = get_or-take (i + 1) entries k e (omega arith) in
            let same : get_or (take i entries) k e ≡ get_or (take (i + 1) entries) k e = get_or-take i entries k e before ∙ sym there in
            let less : k < length (take i entries) = rw (length-take i entries) (omega arith) in
            subst (IsBeside table) same (known.passed k e less (ap (λ (x : ClassEntry). x.row.depth) same ∙ deep))

    -- its superinterfaces are put beside the class at the place
    module _ (i : ℕ) (d e : ClassEntry) (lt : i < length entries) (row : e.row ≡ (get_or entries i d).row) (beside : AreSuperinterfaces table e.row.id e.superinterfaces.items) (known : AreKnownTo depth i table entries) where
      abbrev After : List ClassEntry
      After = set entries i e

      here : (k : ℕ) (f : ClassEntry) → k ≡ i → get_or After k f ≡ e
      here k f is = ap (λ (n : ℕ). get_or After n f) is ∙ get_or-set_same entries i e f lt

      pub put_in : AreKnownTo depth (i + 1) table After
      put_in = record {
        below = λ k f within lower. below_at k f within lower (cases_eq k i);
        passed = λ k f within deep. passed_at k f within deep (cases_eq k i);
      }
        where
          below_at : (k : ℕ) (f : ClassEntry) → k < length After → (get_or After k f).row.depth < depth → (k ≡ i) ⊎ (k ≡ i → ⊥) → IsBeside table (get_or After k f)
          below_at k f within lower (inl is) = subst (IsBeside table) (sym (here k f is)) beside
          below_at k f within lower (inr not) =
              let size = length-set entries i e in
              let other = get_or-set_other entries i k e f not in
              let less : (get_or entries k f).row.depth < depth = subst (λ (x : ClassEntry). x.row.depth < depth) other lower in
              subst (IsBeside table) (sym other) (known.below k f (omega (arith, size)) less)

          passed_at : (k : ℕ) (f : ClassEntry) → k < length (take (i + 1) After) → (get_or (take (i + 1) After) k f).row.depth ≡ depth → (k ≡ i) ⊎ (k ≡ i → ⊥) → IsBeside table (get_or (take (i + 1) After) k f)
          passed_at k f within deep (inl is) =
              let size = length-take (i + 1) After in
              let there = get_or-take (i + 1) After k f (omega (arith, size)) in
              subst (IsBeside table) (sym (there ∙ here k f is)) beside
          passed_at k f within deep (inr not) =
              let size = length-take (i + 1) After in
              let before : k < i = omega (arith, size) in
              let there = get_or-take (i + 1) After k f (omega arith) in
              let same : get_or (take i entries) k f ≡ get_or (take (i + 1) After) k f = get_or-take i entries k f before ∙ sym (there ∙ get_or-set_other entries i k e f not) in
              let less : k < length (take i entries) = rw (length-take i entries) (omega arith) in
              subst (IsBeside table) same (known.passed k f less (ap (λ (x : ClassEntry). x.row.depth) same ∙ deep))

pub none_known : (table : Table) (entries : List ClassEntry) → AreKnownBelow 0 table entries
none_known table entries k d lt lower = absurd (omega arith)

pub less_known : (table : Table) (entries : List ClassEntry) (depth top : ℕ) → top ≤ depth → AreKnownBelow depth table entries → AreKnownBelow top table entries
less_known table entries depth top le known k d lt lower = known k d lt (omega arith)

-- no class is farther than the farthest, so all are known
pub all_known : (table : Table) (entries before : List ClassEntry) (vars : List VarRow) (top : ℕ) → table_of entries vars ≡ table_of before vars → All (λ (e : ClassEntry). e.row.depth ≤ top) before → AreKnownBelow (top + 1) table entries → AreBeside table entries
all_known table entries before vars top same greatest known k d lt =
    let rows : map row_of entries ≡ map row_of before = ap (λ (table : Table). table.classes) same in
    let within : k < length before = omega (arith, as_long entries before vars same) in
    let there : (get_or before k d).row ≡ (get_or entries k d).row =
    sym (get_or-map row_of before k d d.row within) ∙ ap (λ (rs : List ClassRow). get_or rs k d.row) (sym rows) ∙ get_or-map row_of entries k d d.row lt in
    let low : (get_or entries k d).row.depth ≤ top = subst (λ (r : ClassRow). r.depth ≤ top) there (greatest k d within) in
    known k d lt (omega (arith, low))

-- what a call ensures twice, said at once
pub on_both : {T E : Type 0} {A B C : Type 0} (r : Result T E) → OnOk r A → OnOk r B → (A → B → C) → OnOk r C
on_both (Ok v) a b f = f a b
on_both (Err e) a b f = tt

abbrev formed_table : (t : Table) → IsWellFormed t → FormedTable
formed_table t f = record { table = t; formed = f }

-- well-formed rows are the same where their tables are
pub same_formed : (t u : Table) (f : IsWellFormed t) (g : IsWellFormed u) → t ≡ u → formed_table t f ≡ formed_table u g
same_formed t u f g e =
    subst (λ (v : Table). (h : IsWellFormed v) → formed_table t f ≡ formed_table v h) e (λ h. ap (formed_table t) (IsWellFormed-prop t f h)) g
