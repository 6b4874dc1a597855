-- Ids: when two are the same, what is found by one, and what stands where a binary search by id ends.
use Rattle.std.proofs.Common.{◌≡◌, ℕ, zero, suc, ◌+◌, ◌-◌, ◌<◌, ◌≤◌, Bool, true, false, List, [], ◌∷◌, map, cond, length, get_or, nat_eq, nat_lt, Contains, Option, Some, None, refl, sym, ◌∙◌, ap, subst, arith, inl, inr}
use Rattle.std.specs.Prelude.{◌&&◌, ◌||◌, ◌⊎◌, find, AllPairs}
use Rattle.std.specs.List.{AllWithin}
use Rattle.std.specs.List.Sorted.{IsPartitionedBy, IsPartitionPoint}
use Rattle.std.specs.Option.{option_map}
use Rattle.std.proofs.lemmas.Bool.Decides.{nat_tests}
use Rattle.std.proofs.lemmas.Bool.{cases_eq, cases_lt}
use Rattle.std.proofs.lemmas.List.{get_or_default}
use Rattle.dart_types.specs.Same.{same_class}
use Rattle.dart_types.specs.declared.ids.ClassId.{ClassId}

-- the id of two numbers comes before another
abbrev pub id_before : ℕ → ℕ → ℕ → ℕ → Bool
id_before a b c d = nat_lt a c || (nat_eq a c && nat_lt b d)

-- the ids are the same
abbrev pub id_same : ℕ → ℕ → ℕ → ℕ → Bool
id_same a b c d = nat_eq a c && nat_eq b d

or_cases : (a b : Bool) → (a || b) ≡ true → (a ≡ true) ⊎ (b ≡ true)
or_cases true b h = inl refl
or_cases false b h = inr h

and_both : (a b : Bool) → (a && b) ≡ true → (a ≡ true) × (b ≡ true)
and_both true b h = (refl, h)
and_both false b h = cc

pub before_cases : (a b c d : ℕ) → id_before a b c d ≡ true → (a < c) ⊎ ((a ≡ c) × (b < d))
before_cases a b c d h =
    elim (or_cases (nat_lt a c) (nat_eq a c && nat_lt b d) h) [
      | inl k ↦ inl (grind (arith, nat_tests))
      | inr k ↦ let e = and_both (nat_eq a c) (nat_lt b d) k in inr (grind (arith, nat_tests, e.0), grind (arith, nat_tests, e.1))
    ]

pub before_from : (a b c d : ℕ) → (a < c) ⊎ ((a ≡ c) × (b < d)) → id_before a b c d ≡ true
before_from a b c d (inl h) = let k : nat_lt a c ≡ true = grind (arith, nat_tests) in rw k refl
before_from a b c d (inr h) =
    let k : nat_eq a c ≡ true = grind (arith, nat_tests, h.0) in
    let l : nat_lt b d ≡ true = grind (arith, nat_tests, h.1) in
    let m : nat_lt a c ≡ false = grind (arith, nat_tests, h.0) in
    rw (k, l, m) refl

same_both : (a b c d : ℕ) → id_same a b c d ≡ true → (a ≡ c) × (b ≡ d)
same_both a b c d h =
    let e = and_both (nat_eq a c) (nat_eq b d) h in
    (grind (arith, nat_tests, e.0), grind (arith, nat_tests, e.1))

same_from : (a b c d : ℕ) → a ≡ c → b ≡ d → id_same a b c d ≡ true
same_from a b c d h k =
    let l : nat_eq a c ≡ true = grind (arith, nat_tests) in
    let m : nat_eq b d ≡ true = grind (arith, nat_tests) in
    rw (l, m) refl

-- before is transitive
pub before_trans : (a b c d e f : ℕ) → id_before a b c d ≡ true → id_before c d e f ≡ true → id_before a b e f ≡ true
before_trans a b c d e f h k =
    elim (before_cases a b c d h) [
      | inl p ↦ elim (before_cases c d e f k) [ inl q ↦ before_from a b e f (inl (omega arith)) | inr q ↦ before_from a b e f (inl (omega (arith, q.0))) ]
      | inr p ↦ elim (before_cases c d e f k) [
        | inl q ↦ before_from a b e f (inl (omega (arith, p.0)))
        | inr q ↦ before_from a b e f (inr (p.0 ∙ q.0, omega (arith, p.1, q.1)))
      ]
    ]

-- no id is before itself
pub before_other : (a b c d : ℕ) → id_before a b c d ≡ true → id_same a b c d ≡ true → ⊥
before_other a b c d h k =
    let s = same_both a b c d k in
    elim (before_cases a b c d h) [ inl p ↦ absurd (omega (arith, s.0)) | inr p ↦ absurd (omega (arith, s.1, p.1)) ]

pub not_true : (b : Bool) → (b ≡ true → ⊥) → b ≡ false
not_true true h = absurd (h refl)
not_true false h = refl

-- of two ids one comes before the other, or they are the same
before_or_after : (a b c d : ℕ) → id_before a b c d ≡ false → id_same a b c d ≡ false → id_before c d a b ≡ true
before_or_after a b c d h k =
    elim (cases_lt c a) as (λ _. id_before c d a b ≡ true) [
      | inl lt ↦ before_from c d a b (inl lt)
      | inr le ↦ elim (cases_lt a c) as (λ _. id_before c d a b ≡ true) [
        | inl gt ↦ let t : true ≡ false = sym (before_from a b c d (inl gt)) ∙ h in cc
        | inr ge ↦
            let e : a ≡ c = omega arith in
            elim (cases_lt d b) as (λ _. id_before c d a b ≡ true) [
              | inl lt ↦ before_from c d a b (inr (sym e, lt))
              | inr more ↦ elim (cases_lt b d) as (λ _. id_before c d a b ≡ true) [
                | inl gt ↦ let t : true ≡ false = sym (before_from a b c d (inr (e, gt))) ∙ h in cc
                | inr less ↦
                    let f : b ≡ d = omega arith in
                    let t : true ≡ false = sym (same_from a b c d e f) ∙ k in
                    cc
              ]
            ]
      ]
    ]

-- the id of a place is before another where that of a later place is
abbrev pub AreIdsInOrder : {X : Type 0} → (X → ℕ) → (X → ℕ) → List X → Type 0
AreIdsInOrder {X} lib index xs = AllPairs (λ (a b : X). id_before (lib a) (index a) (lib b) (index b) ≡ true) xs

module _ {X : Type 0} (p : X → Bool) where
  -- what fails everywhere isn't found
  pub find_none : (xs : List X) → AllWithin (λ x. p x ≡ false) xs 0 (length xs) → find p xs ≡ None
  find_none [] fails = refl
  find_none (x ∷ xs) fails = rw (fails 0 x (omega arith) (omega arith)) (find_none xs (λ j d from to. fails (suc j) d (omega arith) (omega arith)))

  -- the first element that passes is found
  pub find_at : (xs : List X) (i : ℕ) (d : X) → i < length xs → AllWithin (λ x. p x ≡ false) xs 0 i → p (get_or xs i d) ≡ true → find p xs ≡ Some (get_or xs i d)
  find_at [] i d within fails here = absurd (omega arith)
  find_at (x ∷ xs) zero d within fails here = rw here refl
  find_at (x ∷ xs) (suc i) d within fails here =
      rw (fails 0 x (omega arith) (omega arith)) (find_at xs i d (omega arith) (λ j e from to. fails (suc j) e (omega arith) (omega arith)) here)

module _ {X : Type 0} (lib index : X → ℕ) (xs : List X) (order : AreIdsInOrder lib index xs) (l i : ℕ) where
  abbrev pub stands_before : X → Bool
  stands_before x = id_before (lib x) (index x) l i

  abbrev pub is_it : X → Bool
  is_it x = id_same (lib x) (index x) l i

  pub partitioned : IsPartitionedBy stands_before xs
  partitioned j k d le in_range h =
      elim (cases_lt j k) as (λ _. stands_before (get_or xs j d) ≡ true) [
        | inl lt ↦ before_trans (lib (get_or xs j d)) (index (get_or xs j d)) (lib (get_or xs k d)) (index (get_or xs k d)) l i (order j k d lt in_range) h
        | inr ge ↦ let e : k ≡ j = omega arith in subst (λ (m : ℕ). stands_before (get_or xs m d) ≡ true) e h
      ]

  module _ (at : ℕ) (parted : IsPartitionPoint (λ x. stands_before x ≡ true) (λ x. stands_before x ≡ false) xs at) where
    -- what stands before the place has another id
    other_before : AllWithin (λ x. is_it x ≡ false) xs 0 at
    other_before j d from to = not_true _ (λ same. before_other (lib (get_or xs j d)) (index (get_or xs j d)) l i (parted.0 j d from to) same)

    -- the element with the id is found at the place
    pub found : (d : X) → at < length xs → is_it (get_or xs at d) ≡ true → find is_it xs ≡ Some (get_or xs at d)
    found d within same = find_at is_it xs at d within other_before same

    -- where the place is the end, none has the id
    pub none_at_end : length xs ≤ at → find is_it xs ≡ None
    none_at_end end = find_none is_it xs (λ j d from to. other_before j d from (omega arith))

    -- where another id stands at the place, none has the id
    pub none_there : (d : X) → at < length xs → is_it (get_or xs at d) ≡ false → find is_it xs ≡ None
    none_there d within other = find_none is_it xs at_each
      where
        behind : (j : ℕ) (e : X) → at ≤ j → j < length xs → is_it (get_or xs at e) ≡ false → is_it (get_or xs j e) ≡ false
        behind j e le to no_match =
            let here = before_or_after (lib (get_or xs at e)) (index (get_or xs at e)) l i (parted.1 at e (omega arith) within) no_match in
            elim (cases_lt at j) as (λ _. is_it (get_or xs j e) ≡ false) [
              | inl lt ↦ not_true _ (λ same.
                  let s = same_both (lib (get_or xs j e)) (index (get_or xs j e)) l i same in
                  let m = before_trans l i (lib (get_or xs at e)) (index (get_or xs at e)) (lib (get_or xs j e)) (index (get_or xs j e)) here (order at j e lt to) in
                  before_other l i (lib (get_or xs j e)) (index (get_or xs j e)) m (same_from l i (lib (get_or xs j e)) (index (get_or xs j e)) (sym s.0) (sym s.1)))
              | inr ge ↦ let f : at ≡ j = omega arith in subst (λ (m : ℕ). is_it (get_or xs m e) ≡ false) f no_match
            ]

        at_each : AllWithin (λ x. is_it x ≡ false) xs 0 (length xs)
        at_each j e from to =
            elim (cases_lt j at) as (λ _. is_it (get_or xs j e) ≡ false) [
              | inl lt ↦ other_before j e from lt
              | inr ge ↦ behind j e ge to (rw (get_or_default xs at e d within) other)
            ]

pub equal_from_same_class : (c d : ClassId) → same_class c d ≡ true → c ≡ d
equal_from_same_class c d h =
    let b = same_both c.lib.0 c.index d.lib.0 d.index h in
    λ k. record { lib = record { 0 = b.0 k }; index = b.1 k }

pub same_class-refl : (c : ClassId) → same_class c c ≡ true
same_class-refl c = same_from c.lib.0 c.index c.lib.0 c.index refl refl

module _ {X Y : Type 0} (f : X → Y) where
  -- what is found among the images is the image of what is found
  pub find-map : (p : Y → Bool) (xs : List X) → find p (map f xs) ≡ option_map f (find (λ x. p (f x)) xs)
  find-map p [] = refl
  find-map p (x ∷ xs) = at (p (f x)) (find-map p xs)
    where
      at : (b : Bool) → find p (map f xs) ≡ option_map f (find (λ x. p (f x)) xs) → cond b (Some (f x)) (find p (map f xs)) ≡ option_map f (cond b (Some x) (find (λ x. p (f x)) xs))
      at true e = refl
      at false e = e

pub found_in : {X : Type 0} (p : X → Bool) (xs : List X) (x : X) → find p xs ≡ Some x → Contains xs x × (p x ≡ true)
found_in p [] x e = cc
found_in {X} p (y ∷ ys) x e = at (p y) refl e (found_in p ys x)
  where
    at : (b : Bool) → p y ≡ b → cond b (Some y) (find p ys) ≡ Some x → (find p ys ≡ Some x → Contains ys x × (p x ≡ true)) → Contains (y ∷ ys) x × (p x ≡ true)
    at true is here later = let same : y ≡ x = cc in ((0, omega arith, same), subst (λ (z : X). p z ≡ true) same is)
    at false is here later = let k = later here in ((suc k.0.0, omega (arith, k.0.1), k.0.2), k.1)

-- what an option holds after a function was what it held before
pub from_mapped : {X Y : Type 0} (f : X → Y) (o : Option X) (y : Y) → option_map f o ≡ Some y → (x : X) × (o ≡ Some x) × (f x ≡ y)
from_mapped f None y e = cc
from_mapped f (Some x) y e = (x, refl, let k : f x ≡ y = cc in k)

-- ids that rise from each place to the next
module _ {X : Type 0} (lib index : X → ℕ) (xs : List X) where
  abbrev pub IsBefore : X → X → Type 0
  IsBefore a b = id_before (lib a) (index a) (lib b) (index b) ≡ true

  abbrev pub AreRising : ℕ → Type 0
  AreRising i = (j : ℕ) (d : X) → j + 1 < i → j + 1 < length xs → IsBefore (get_or xs j d) (get_or xs (j + 1) d)

  pub rising_one : AreRising 1
  rising_one j d lt within = absurd (omega arith)

  pub rising_next : (i : ℕ) (a b : X) → 1 ≤ i → i < length xs → a ≡ get_or xs (i - 1) a → b ≡ get_or xs i b → IsBefore a b → AreRising i → AreRising (i + 1)
  rising_next i a b one within first second before rising j d lt under =
      elim (cases_eq (j + 1) i) as (λ _. IsBefore (get_or xs j d) (get_or xs (j + 1) d)) [
        | inl e ↦
            let f : a ≡ get_or xs j d = first ∙ get_or_default xs (i - 1) a d (omega arith) ∙ ap (λ (n : ℕ). get_or xs n d) (omega (arith, e)) in
            let s : b ≡ get_or xs (j + 1) d = second ∙ get_or_default xs i b d within ∙ ap (λ (n : ℕ). get_or xs n d) (sym e) in
            subst (λ (y : X). IsBefore (get_or xs j d) y) s (subst (λ (y : X). IsBefore y b) f before)
        | inr other ↦ rising j d (omega arith) under
      ]

  pub rising_done : (i : ℕ) → length xs ≤ i → AreRising i → AllPairs IsBefore xs
  rising_done i end rising k j d lt within =
      subst (λ (n : ℕ). IsBefore (get_or xs k d) (get_or xs n d)) (omega arith) (steps (j - k - 1) (omega arith))
    where
      steps : (n : ℕ) → k + n + 1 < length xs → IsBefore (get_or xs k d) (get_or xs (k + n + 1) d)
      steps zero h =
          let e : k + 1 ≡ k + 0 + 1 = omega arith in
          subst (λ (m : ℕ). IsBefore (get_or xs k d) (get_or xs m d)) e (rising k d (omega (arith, h)) (omega (arith, h)))
      steps (suc n) h =
          let a = get_or xs k d in
          let b = get_or xs (k + n + 1) d in
          let c = get_or xs (k + n + 1 + 1) d in
          let one : IsBefore b c = rising (k + n + 1) d (omega (arith, h)) (omega (arith, h)) in
          let e : k + n + 1 + 1 ≡ k + suc n + 1 = omega arith in
          subst (λ (m : ℕ). IsBefore a (get_or xs m d)) e (before_trans (lib a) (index a) (lib b) (index b) (lib c) (index c) (steps n (omega (arith, h))) one)

  pub not_rising : (i : ℕ) (d e : X) → 1 ≤ i → i < length xs → id_before (lib (get_or xs (i - 1) d)) (index (get_or xs (i - 1) d)) (lib (get_or xs i e)) (index (get_or xs i e)) ≡ false → AllPairs IsBefore xs → ⊥
  not_rising i d e one within other order =
      let h : IsBefore (get_or xs (i - 1) d) (get_or xs i e) =
      subst (λ (y : X). IsBefore (get_or xs (i - 1) d) y) (get_or_default xs i d e within) (order (i - 1) i d (omega arith) within) in
      let e : true ≡ false = sym h ∙ other in
      cc
