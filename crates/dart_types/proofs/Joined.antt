-- Own rows among those below: what is looked up among all.
use Rattle.std.proofs.Common.{◌≡◌, Bool, true, false, List, [], ◌∷◌, Some, None, refl, ◌∙◌, ap, subst, cond, arith, inl, inr}
use Rattle.std.specs.Prelude.{◌⊎◌, AllPairs, Contains, find}
use Rattle.std.specs.Option.{option_map}
use Rattle.dart_types.specs.Ty.{Ty}
use Rattle.dart_types.specs.Same.{same_class, same_var}
use Rattle.dart_types.specs.Tables.{Table, class_of, bound_of}
use Rattle.dart_types.specs.WellFormed.{class_before, var_before, IsWellFormed}
use Rattle.dart_types.specs.Unions.{Extends}
use Rattle.dart_types.specs.Joined.{put_row, put_rows, joined}
use Rattle.dart_types.specs.declared.ids.ClassId.{ClassId}
use Rattle.dart_types.specs.declared.ids.VarId.{VarId}
use Rattle.dart_types.specs.declared.class_rows.ClassRow.{ClassRow}
use Rattle.dart_types.specs.declared.class_rows.VarRow.{VarRow}
use Rattle.dart_types.proofs.Formed.{found_in, from_mapped}
use Rattle.dart_types.proofs.Groups.{first_or_later, at_first, at_later, pair_of, pairs_behind, pairs_before, none_found, missed}
use Rattle.dart_types.proofs.SameIds.{same_class-refl, same_var-refl, equal_from_same_class, equal_from_same_var}
use Rattle.dart_types.proofs.Searches.{not_true, before_other}
use Rattle.dart_types.proofs.Wider.{IsWider}

module _ {X : Type 0} (before : X → X → Bool) where
  abbrev Before : X → X → Type 0
  Before x y = before x y ≡ true

  pub in_put : (x : X) (ys : List X) (z : X) → Contains (put_row before x ys) z → (x ≡ z) ⊎ Contains ys z
  in_put x [] z i = first_or_later x [] z i
  in_put x (y ∷ ys) z i = at (before y x) (in_put x ys z) i
    where
      at : (b : Bool) → (Contains (put_row before x ys) z → (x ≡ z) ⊎ Contains ys z) → Contains (cond b (y ∷ put_row before x ys) (x ∷ y ∷ ys)) z → (x ≡ z) ⊎ Contains (y ∷ ys) z
      at true rest i = elim (first_or_later y (put_row before x ys) z i) as (λ _. (x ≡ z) ⊎ Contains (y ∷ ys) z) [
        | inl e ↦ inr (subst (λ (w : X). Contains (y ∷ ys) w) e (at_first y ys))
        | inr l ↦ elim (rest l) as (λ _. (x ≡ z) ⊎ Contains (y ∷ ys) z) [ inl e ↦ inl e | inr m ↦ inr (at_later y ys z m) ]
      ]
      at false rest i = first_or_later x (y ∷ ys) z i

  pub put_in_first : (x : X) (ys : List X) → Contains (put_row before x ys) x
  put_in_first x [] = at_first x []
  put_in_first x (y ∷ ys) = at (before y x) (put_in_first x ys)
    where
      at : (b : Bool) → Contains (put_row before x ys) x → Contains (cond b (y ∷ put_row before x ys) (x ∷ y ∷ ys)) x
      at true rest = at_later y (put_row before x ys) x rest
      at false rest = at_first x (y ∷ ys)

  pub put_in_later : (x : X) (ys : List X) (z : X) → Contains ys z → Contains (put_row before x ys) z
  put_in_later x [] z i = absurd (omega (arith, i.1))
  put_in_later x (y ∷ ys) z i = at (before y x) (put_in_later x ys z)
    where
      at : (b : Bool) → (Contains ys z → Contains (put_row before x ys) z) → Contains (cond b (y ∷ put_row before x ys) (x ∷ y ∷ ys)) z
      at true rest = elim (first_or_later y ys z i) as (λ _. Contains (y ∷ put_row before x ys) z) [
        | inl e ↦ subst (λ (w : X). Contains (y ∷ put_row before x ys) w) e (at_first y (put_row before x ys))
        | inr l ↦ at_later y (put_row before x ys) z (rest l)
      ]
      at false rest = at_later x (y ∷ ys) z i

  pub in_puts : (xs ys : List X) (z : X) → Contains (put_rows before xs ys) z → Contains xs z ⊎ Contains ys z
  in_puts [] ys z i = inr i
  in_puts (x ∷ xs) ys z i =
      elim (in_put x (put_rows before xs ys) z i) as (λ _. Contains (x ∷ xs) z ⊎ Contains ys z) [
        | inl e ↦ inl (subst (λ (w : X). Contains (x ∷ xs) w) e (at_first x xs))
        | inr l ↦ elim (in_puts xs ys z l) as (λ _. Contains (x ∷ xs) z ⊎ Contains ys z) [ inl m ↦ inl (at_later x xs z m) | inr m ↦ inr m ]
      ]

  pub puts_left : (xs ys : List X) (z : X) → Contains xs z → Contains (put_rows before xs ys) z
  puts_left [] ys z i = absurd (omega (arith, i.1))
  puts_left (x ∷ xs) ys z i =
      elim (first_or_later x xs z i) as (λ _. Contains (put_rows before (x ∷ xs) ys) z) [
        | inl e ↦ subst (λ (w : X). Contains (put_rows before (x ∷ xs) ys) w) e (put_in_first x (put_rows before xs ys))
        | inr l ↦ put_in_later x (put_rows before xs ys) z (puts_left xs ys z l)
      ]

  pub puts_right : (xs ys : List X) (z : X) → Contains ys z → Contains (put_rows before xs ys) z
  puts_right [] ys z i = i
  puts_right (x ∷ xs) ys z i = put_in_later x (put_rows before xs ys) z (puts_right xs ys z i)

  module _ (trans : (x y z : X) → Before x y → Before y z → Before x z) where
    put_in_order : (x : X) (ys : List X) → ((y : X) → Contains ys y → before y x ≡ false → Before x y) → AllPairs Before ys → AllPairs Before (put_row before x ys)
    put_in_order x [] or order = pairs_before Before x [] (λ y i. absurd (omega (arith, i.1))) order
    put_in_order x (y ∷ ys) or order = at (before y x) refl (put_in_order x ys (λ z i h. or z (at_later y ys z i) h) (pairs_behind Before y ys order))
      where
        at : (b : Bool) → before y x ≡ b → AllPairs Before (put_row before x ys) → AllPairs Before (cond b (y ∷ put_row before x ys) (x ∷ y ∷ ys))
        at true e rest =
            pairs_before Before y (put_row before x ys)
            (λ z i. elim (in_put x ys z i) as (λ _. Before y z) [ inl f ↦ subst (λ (w : X). Before y w) f e | inr l ↦ pair_of Before ys y z order l ])
            rest
        at false e rest =
            let first = or y (at_first y ys) e in
            pairs_before Before x (y ∷ ys)
            (λ z i. elim (first_or_later y ys z i) as (λ _. Before x z) [ inl f ↦ subst (λ (w : X). Before x w) f first | inr l ↦ trans x y z first (pair_of Before ys y z order l) ])
            order

    pub puts_in_order : (xs ys : List X) → AllPairs Before xs → AllPairs Before ys → ((x y : X) → Contains xs x → Contains ys y → before y x ≡ false → Before x y) → AllPairs Before (put_rows before xs ys)
    puts_in_order [] ys h k across = k
    puts_in_order (x ∷ xs) ys h k across =
        put_in_order x (put_rows before xs ys)
        (λ y i e. elim (in_puts xs ys y i) as (λ _. Before x y) [ inl l ↦ pair_of Before xs x y h l | inr r ↦ across x y (at_first x xs) r e ])
        (puts_in_order xs ys (pairs_behind Before x xs h) k (λ a b i j. across a b (at_later x xs a i) j))

abbrev pub row_before : ClassRow → ClassRow → Bool
row_before a b = class_before a.id b.id

abbrev pub bound_before : VarRow → VarRow → Bool
bound_before a b = var_before a.var b.var

-- rows in order: one is found by its id
pub class_found : (rows : List ClassRow) (row : ClassRow) → AllPairs (λ (a b : ClassRow). row_before a b ≡ true) rows → Contains rows row → find (λ (r : ClassRow). same_class r.id row.id) rows ≡ Some row
class_found [] row order i = absurd (omega (arith, i.1))
class_found (r ∷ rows) row order i =
    elim (first_or_later r rows row i) as (λ _. find (λ (x : ClassRow). same_class x.id row.id) (r ∷ rows) ≡ Some row) [
      | inl e ↦ let h : same_class r.id row.id ≡ true = subst (λ (x : ClassRow). same_class r.id x.id ≡ true) e (same_class-refl r.id) in rw h (ap (λ (x : ClassRow). Some x) e)
      | inr l ↦
          let b = pair_of (λ (a b : ClassRow). row_before a b ≡ true) rows r row order l in
          let h : same_class r.id row.id ≡ false = not_true (same_class r.id row.id) (λ s. before_other r.id.lib.0 r.id.index row.id.lib.0 row.id.index b s) in
          rw h (class_found rows row (pairs_behind (λ (a b : ClassRow). row_before a b ≡ true) r rows order) l)
    ]

pub var_found : (rows : List VarRow) (row : VarRow) → AllPairs (λ (a b : VarRow). bound_before a b ≡ true) rows → Contains rows row → find (λ (r : VarRow). same_var r.var row.var) rows ≡ Some row
var_found [] row order i = absurd (omega (arith, i.1))
var_found (r ∷ rows) row order i =
    elim (first_or_later r rows row i) as (λ _. find (λ (x : VarRow). same_var x.var row.var) (r ∷ rows) ≡ Some row) [
      | inl e ↦ let h : same_var r.var row.var ≡ true = subst (λ (x : VarRow). same_var r.var x.var ≡ true) e (same_var-refl r.var) in rw h (ap (λ (x : VarRow). Some x) e)
      | inr l ↦
          let b = pair_of (λ (a b : VarRow). bound_before a b ≡ true) rows r row order l in
          let h : same_var r.var row.var ≡ false = not_true (same_var r.var row.var) (λ s. before_other r.var.lib.0 r.var.index row.var.lib.0 row.var.index b s) in
          rw h (var_found rows row (pairs_behind (λ (a b : VarRow). bound_before a b ≡ true) r rows order) l)
    ]

-- what is looked up stands in the rows, with that id
pub class_there : (table : Table) (c : ClassId) (row : ClassRow) → class_of table c ≡ Some row → Contains table.classes row × (row.id ≡ c)
class_there table c row e =
    let f = found_in (λ (r : ClassRow). same_class r.id c) table.classes row e in
    (f.0, equal_from_same_class row.id c f.1)

pub var_there : (table : Table) (x : VarId) (b : Ty) → bound_of table x ≡ Some b → (row : VarRow) × Contains table.vars row × (row.var ≡ x) × (row.bound ≡ b)
var_there table x b e =
    let m = from_mapped (λ (r : VarRow). r.bound) (find (λ (r : VarRow). same_var r.var x) table.vars) b e in
    let f = found_in (λ (r : VarRow). same_var r.var x) table.vars m.0 m.1 in
    (m.0, f.0, equal_from_same_var m.0.var x f.1, m.2)

-- more rows, which are in order, are a wider table
pub wider_from : (small large : Table) → Extends small large → AllPairs (λ (a b : ClassRow). row_before a b ≡ true) large.classes → AllPairs (λ (a b : VarRow). bound_before a b ≡ true) large.vars → IsWider small large
wider_from small large extends classes vars = record {
  classes = λ c row e.
      let f = class_there small c row e in
      subst (λ (d : ClassId). class_of large d ≡ Some row) f.1 (class_found large.classes row classes (extends.classes row f.0));
  vars = λ x b e.
      let f = var_there small x b e in
      let g = var_found large.vars f.0 vars (extends.vars f.0 f.1) in
      subst (λ (y : VarId). bound_of large y ≡ Some b) f.2 (ap (option_map (λ (r : VarRow). r.bound)) g ∙ ap (λ (t : Ty). Some t) f.3);
}

module _ (below own : Table) where
  pub below_extends : Extends below (joined below own)
  below_extends = record {
    classes = λ row i. puts_right row_before own.classes below.classes row i;
    vars = λ row i. puts_right bound_before own.vars below.vars row i;
  }

  module _ (wf : IsWellFormed (joined below own)) where
    -- what is looked up below is found among all
    pub below_wider : IsWider below (joined below own)
    below_wider = wider_from below (joined below own) below_extends wf.classes_in_order wf.vars_in_order

    -- an own class is found by its id
    pub own_found : (row : ClassRow) → Contains own.classes row → class_of (joined below own) row.id ≡ Some row
    own_found row i = class_found (joined below own).classes row wf.classes_in_order (puts_left row_before own.classes below.classes row i)

    -- a class that is neither has no row
    pub neither_found : (c : ClassId) → class_of own c ≡ None → class_of below c ≡ None → class_of (joined below own) c ≡ None
    neither_found c o b =
        none_found (λ (r : ClassRow). same_class r.id c) (joined below own).classes
        (λ row i h. elim (in_puts row_before own.classes below.classes row i) as (λ _. ⊥) [ inl l ↦ out own row l h o | inr r ↦ out below row r h b ])
      where
        out : (table : Table) (row : ClassRow) → Contains table.classes row → same_class row.id c ≡ true → class_of table c ≡ None → ⊥
        out table row i h none = missed (λ (r : ClassRow). same_class r.id c) table.classes row i h none
