-- Rows in order are told by which rows they are.
use Rattle.std.proofs.Common.{◌≡◌, zero, suc, Bool, true, List, [], ◌∷◌, ◌∙◌, refl, sym, ap, subst, arith, inl, inr}
use Rattle.std.specs.Prelude.{◌⊎◌, Contains, AllPairs}
use Rattle.std.proofs.lemmas.Bool.Decides.{nat_tests}
use Rattle.dart_types.specs.Tables.{Table}
use Rattle.dart_types.specs.Unions.{IsFormedOver, IsUnion}
use Rattle.dart_types.specs.WellFormed.{class_before, var_before, IsWellFormed}
use Rattle.dart_types.specs.declared.class_rows.ClassRow.{ClassRow}
use Rattle.dart_types.specs.declared.class_rows.VarRow.{VarRow}

module _ {X : Type 0} (before : X → X → Bool) (apart : (x y : X) → before x y ≡ true → before y x ≡ true → ⊥) where
  abbrev Rises : List X → Type 0
  Rises xs = AllPairs (λ (a b : X). before a b ≡ true) xs

  behind : (x : X) (xs : List X) → Rises (x ∷ xs) → Rises xs
  behind x xs h i j d lt within = h (suc i) (suc j) d (omega arith) (omega arith)

  first : (x : X) (xs : List X) (y : X) → Rises (x ∷ xs) → Contains xs y → before x y ≡ true
  first x xs y h i = subst (λ (z : X). before x z ≡ true) i.2 (h 0 (suc i.0) y (omega arith) (omega (arith, i.1)))

  at_first : (x : X) (xs : List X) → Contains (x ∷ xs) x
  at_first x xs = (0, omega arith, refl)

  at_later : (x : X) (xs : List X) (y : X) → Contains xs y → Contains (x ∷ xs) y
  at_later x xs y i = (suc i.0, omega (arith, i.1), i.2)

  which : (x : X) (xs : List X) (y : X) → Contains (x ∷ xs) y → (x ≡ y) ⊎ Contains xs y
  which x xs y (zero, lt, is) = inl is
  which x xs y (suc k, lt, is) = inr (k, omega (arith, lt), is)

  same_first : (x y : X) (xs ys : List X) → Rises (x ∷ xs) → Rises (y ∷ ys) → Contains (y ∷ ys) x → Contains (x ∷ xs) y → x ≡ y
  same_first x y xs ys h k i j =
      elim (which y ys x i) as (λ _. x ≡ y) [
        | inl e ↦ sym e
        | inr later ↦ elim (which x xs y j) as (λ _. x ≡ y) [
          | inl e ↦ e
          | inr behind ↦ absurd (apart x y (first x xs y h behind) (first y ys x k later))
        ]
      ]

  later : (x y : X) (xs ys : List X) → x ≡ y → Rises (x ∷ xs) → ((z : X) → Contains (x ∷ xs) z → Contains (y ∷ ys) z) → (z : X) → Contains xs z → Contains ys z
  later x y xs ys e h to z i =
      elim (which y ys z (to z (at_later x xs z i))) as (λ _. Contains ys z) [
        | inl s ↦
            let b : before x x ≡ true = subst (λ (w : X). before x w ≡ true) (sym (e ∙ s)) (first x xs z h i) in
            absurd (apart x x b b)
        | inr r ↦ r
      ]

  pub same : (xs ys : List X) → Rises xs → Rises ys → ((z : X) → Contains xs z → Contains ys z) → ((z : X) → Contains ys z → Contains xs z) → xs ≡ ys
  same [] [] h k to from = refl
  same [] (y ∷ ys) h k to from = absurd (omega (arith, (from y (at_first y ys)).1))
  same (x ∷ xs) [] h k to from = absurd (omega (arith, (to x (at_first x xs)).1))
  same (x ∷ xs) (y ∷ ys) h k to from =
      let e = same_first x y xs ys h k (to x (at_first x xs)) (from y (at_first y ys)) in
      let rest = same xs ys (behind x xs h) (behind y ys k) (later x y xs ys e h to) (later y x ys xs (sym e) k from) in
      ap (λ (z : X). z ∷ xs) e ∙ ap (λ (zs : List X). y ∷ zs) rest

classes_apart : (a b : ClassRow) → class_before a.id b.id ≡ true → class_before b.id a.id ≡ true → ⊥
classes_apart a b h k = grind (arith, nat_tests)

vars_apart : (a b : VarRow) → var_before a.var b.var ≡ true → var_before b.var a.var ≡ true → ⊥
vars_apart a b h k = grind (arith, nat_tests)

-- the union of no rows and own ones that are in order is these
pub union_of_none : (own u : Table) → IsFormedOver (record { classes = []; vars = [] }) own → IsWellFormed u → IsUnion (record { classes = []; vars = [] }) own u → u ≡ own
union_of_none own u formed wf union =
    let classes : u.classes ≡ own.classes =
    same (λ (a b : ClassRow). class_before a.id b.id) classes_apart u.classes own.classes wf.classes_in_order formed.classes_in_order
    (λ row i. elim ((union.classes row).0 i) as (λ _. Contains own.classes row) [ inl l ↦ absurd (omega (arith, l.1)) | inr r ↦ r ])
    (λ row i. (union.classes row).1 (inr i)) in
    let vars : u.vars ≡ own.vars =
    same (λ (a b : VarRow). var_before a.var b.var) vars_apart u.vars own.vars wf.vars_in_order formed.vars_in_order
    (λ row i. elim ((union.vars row).0 i) as (λ _. Contains own.vars row) [ inl l ↦ absurd (omega (arith, l.1)) | inr r ↦ r ])
    (λ row i. (union.vars row).1 (inr i)) in
    λ k. record { classes = classes k; vars = vars k }
