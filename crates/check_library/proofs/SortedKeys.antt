-- Keys put at their places in an order, one after another: the result is in order, and has just these keys.
use Rattle.std.proofs.Common.{◌≡◌, List, [], ◌∷◌, refl, sym, ap, subst, ◌∙◌, arith, Contains, inl, inr, ◌⊎◌}
use Rattle.std.proofs.lemmas.List.Elements.{Contains-append_left, Contains-append_right, Contains-append_cases, Contains-push, Contains-push_cases}
use Rattle.std.specs.List.{AllByRecursion}
use Rattle.std.specs.List.Sorted.{IsStrictlySortedBy}
use Rattle.std.specs.Cmp.{IsTotalOrder}
use Rattle.std.specs.Ordering.{ordering_reverse, match_ordering}
use Rattle.std.specs.declared.cmp.Ordering.{Ordering}
use Rattle.std.specs.declared.cmp.Ordering.TheVariants.{Less, Equal, Greater}
use Rattle.std.specs.BTreeSet.{insert_key}
use Rattle.std.specs.FinMap.{IsAntisymmetric}

module _ {K : Type 0} where
  -- the first of a list is in it
  pub contains_first : (x : K) (xs : List K) → Contains (x ∷ xs) x
  contains_first x xs = Contains-append_left (x ∷ []) xs x (Contains-push [] x)

  -- what is behind the first is in the list
  pub contains_later : (x : K) (xs : List K) (q : K) → Contains xs q → Contains (x ∷ xs) q
  contains_later x xs q later = Contains-append_right (x ∷ []) xs q later

  contains_nothing : {P : Type 0} (q : K) → Contains [] q → P
  contains_nothing q c = absurd (omega (arith, c.1))

  -- what is in a list is its first or behind it
  pub contains_cases : (x : K) (xs : List K) (q : K) → Contains (x ∷ xs) q → (x ≡ q) ⊎ Contains xs q
  contains_cases x xs q c = elim (Contains-append_cases (x ∷ []) xs q c) [
    | inl first ↦ elim (Contains-push_cases [] x q first) [
      | inl nothing ↦ contains_nothing q nothing
      | inr same ↦ inl same
    ]
    | inr later ↦ inr later
  ]

module _ {K : Type 0} {R : K → K → Ordering} (total : IsTotalOrder R) where
  -- what is before x is before all that x is before
  all_after : (k x : K) → R k x ≡ Less → (xs : List K) → AllByRecursion (λ y. R x y ≡ Less) xs → AllByRecursion (λ y. R k y ≡ Less) xs
  all_after k x before [] all = tt
  all_after k x before (y ∷ ys) all = (total.trans k x y before all.0, all_after k x before ys all.1)

  -- what holds of all keys and of one more holds of all with this one
  all-insert_key : (P : K → Type 0) (k : K) (xs : List K) → AllByRecursion P xs → P k → AllByRecursion P (insert_key R xs k)
  all-insert_key P k [] all here = (here, tt)
  all-insert_key P k (x ∷ xs) all here =
      elim (R k x) as (λ r. AllByRecursion P (match_ordering r (k ∷ x ∷ xs) (x ∷ xs) (x ∷ insert_key R xs k))) [
        | Less ↦ (here, all)
        | Equal ↦ all
        | Greater ↦ (all.0, all-insert_key P k xs all.1 here)
      ]

  -- keys in order stay so
  pub sorted-insert_key : (k : K) (xs : List K) → IsStrictlySortedBy R xs → IsStrictlySortedBy R (insert_key R xs k)
  unfolding IsStrictlySortedBy
  sorted-insert_key k [] sorted = (tt, tt)
  sorted-insert_key k (x ∷ xs) sorted =
      elim (R k x) as (λ r. R k x ≡ r → IsStrictlySortedBy R (match_ordering r (k ∷ x ∷ xs) (x ∷ xs) (x ∷ insert_key R xs k))) [
        | Less ↦ λ before. ((before, all_after k x before xs sorted.0), sorted)
        | Equal ↦ λ _. sorted
        | Greater ↦ λ after. (all-insert_key (λ y. R x y ≡ Less) k xs sorted.0 (total.antisymm x k ∙ ap ordering_reverse after), sorted-insert_key k xs sorted.1)
      ] refl

module _ {K : Type 0} (R : K → K → Ordering) (same : IsAntisymmetric R) where
  -- a key that was put at its place is there, and those that were there still are
  pub contains-into_insert_key : (k : K) (xs : List K) (q : K) → (k ≡ q) ⊎ Contains xs q → Contains (insert_key R xs k) q
  contains-into_insert_key k [] q (inl is) = subst (Contains (k ∷ [])) is (contains_first k [])
  contains-into_insert_key k [] q (inr there) = contains_nothing q there
  contains-into_insert_key k (x ∷ xs) q (inl is) =
      elim (R k x) as (λ r. R k x ≡ r → Contains (match_ordering r (k ∷ x ∷ xs) (x ∷ xs) (x ∷ insert_key R xs k)) q) [
        | Less ↦ λ _. subst (Contains (k ∷ x ∷ xs)) is (contains_first k (x ∷ xs))
        | Equal ↦ λ tie. subst (Contains (x ∷ xs)) (sym (same k x tie) ∙ is) (contains_first x xs)
        | Greater ↦ λ _. contains_later x _ q (contains-into_insert_key k xs q (inl is))
      ] refl
  contains-into_insert_key k (x ∷ xs) q (inr there) =
      elim (R k x) as (λ r. Contains (match_ordering r (k ∷ x ∷ xs) (x ∷ xs) (x ∷ insert_key R xs k)) q) [
        | Less ↦ contains_later k (x ∷ xs) q there
        | Equal ↦ there
        | Greater ↦ elim (contains_cases x xs q there) [
          | inl is ↦ subst (Contains (x ∷ insert_key R xs k)) is (contains_first x (insert_key R xs k))
          | inr later ↦ contains_later x _ q (contains-into_insert_key k xs q (inr later))
        ]
      ]

  -- and there is nothing else
  pub contains-from_insert_key : (k : K) (xs : List K) (q : K) → Contains (insert_key R xs k) q → (k ≡ q) ⊎ Contains xs q
  contains-from_insert_key k [] q c = contains_cases k [] q c
  contains-from_insert_key k (x ∷ xs) q c =
      elim (R k x) as (λ r. Contains (match_ordering r (k ∷ x ∷ xs) (x ∷ xs) (x ∷ insert_key R xs k)) q → (k ≡ q) ⊎ Contains (x ∷ xs) q) [
        | Less ↦ λ c. contains_cases k (x ∷ xs) q c
        | Equal ↦ λ c. inr c
        | Greater ↦ λ c. elim (contains_cases x (insert_key R xs k) q c) [
          | inl is ↦ inr (subst (Contains (x ∷ xs)) is (contains_first x xs))
          | inr later ↦ elim (contains-from_insert_key k xs q later) [
            | inl is ↦ inl is
            | inr there ↦ inr (contains_later x xs q there)
          ]
        ]
      ] c
