-- What stands at the place at which a binary search by id ends.
use Rattle.std.proofs.Common.{◌≡◌, ℕ, zero, suc, ◌+◌, ◌-◌, ◌<◌, ◌≤◌, Bool, true, false, not, List, [], ◌∷◌, length, take, drop, filter, get_or, nat_eq, nat_lt, Some, None, refl, sym, ◌∙◌, ap, subst, arith, inl, inr}
use Rattle.std.specs.Prelude.{◌&&◌, ◌||◌, ◌⊎◌, find, AllPairs}
use Rattle.std.specs.List.{AllWithin}
use Rattle.std.specs.List.Sorted.{IsPartitionedBy, IsPartitionPoint}
use Rattle.std.proofs.lemmas.Bool.Decides.{nat_tests}
use Rattle.std.proofs.lemmas.Bool.{cases_lt}
use Rattle.std.proofs.lemmas.List.{get_or_default}

-- the id of two numbers comes before another
abbrev pub id_before : ℕ → ℕ → ℕ → ℕ → Bool
id_before a b c d = nat_lt a c || (nat_eq a c && nat_lt b d)

-- the ids are the same
abbrev pub id_same : ℕ → ℕ → ℕ → ℕ → Bool
id_same a b c d = nat_eq a c && nat_eq b d

or_cases : (a b : Bool) → (a || b) ≡ true → (a ≡ true) ⊎ (b ≡ true)
or_cases true b h = inl refl
or_cases false b h = inr h

and_both : (a b : Bool) → (a && b) ≡ true → (a ≡ true) × (b ≡ true)
and_both true b h = (refl, h)
and_both false b h = cc

pub before_cases : (a b c d : ℕ) → id_before a b c d ≡ true → (a < c) ⊎ ((a ≡ c) × (b < d))
before_cases a b c d h =
    elim (or_cases (nat_lt a c) (nat_eq a c && nat_lt b d) h) [
      | inl k ↦ inl (grind (arith, nat_tests))
      | inr k ↦ let e = and_both (nat_eq a c) (nat_lt b d) k in inr (grind (arith, nat_tests, e.0), grind (arith, nat_tests, e.1))
    ]

pub before_from : (a b c d : ℕ) → (a < c) ⊎ ((a ≡ c) × (b < d)) → id_before a b c d ≡ true
before_from a b c d (inl h) = let k : nat_lt a c ≡ true = grind (arith, nat_tests) in rw k refl
before_from a b c d (inr h) =
    let k : nat_eq a c ≡ true = grind (arith, nat_tests, h.0) in
    let l : nat_lt b d ≡ true = grind (arith, nat_tests, h.1) in
    let m : nat_lt a c ≡ false = grind (arith, nat_tests, h.0) in
    rw (k, l, m) refl

same_both : (a b c d : ℕ) → id_same a b c d ≡ true → (a ≡ c) × (b ≡ d)
same_both a b c d h =
    let e = and_both (nat_eq a c) (nat_eq b d) h in
    (grind (arith, nat_tests, e.0), grind (arith, nat_tests, e.1))

same_from : (a b c d : ℕ) → a ≡ c → b ≡ d → id_same a b c d ≡ true
same_from a b c d h k =
    let l : nat_eq a c ≡ true = grind (arith, nat_tests) in
    let m : nat_eq b d ≡ true = grind (arith, nat_tests) in
    rw (l, m) refl

-- before is transitive
pub before_trans : (a b c d e f : ℕ) → id_before a b c d ≡ true → id_before c d e f ≡ true → id_before a b e f ≡ true
before_trans a b c d e f h k =
    elim (before_cases a b c d h) [
      | inl p ↦ elim (before_cases c d e f k) [ inl q ↦ before_from a b e f (inl (omega arith)) | inr q ↦ before_from a b e f (inl (omega (arith, q.0))) ]
      | inr p ↦ elim (before_cases c d e f k) [
        | inl q ↦ before_from a b e f (inl (omega (arith, p.0)))
        | inr q ↦ before_from a b e f (inr (p.0 ∙ q.0, omega (arith, p.1, q.1)))
      ]
    ]

-- no id is before itself
pub before_other : (a b c d : ℕ) → id_before a b c d ≡ true → id_same a b c d ≡ true → ⊥
before_other a b c d h k =
    let s = same_both a b c d k in
    elim (before_cases a b c d h) [ inl p ↦ absurd (omega (arith, s.0)) | inr p ↦ absurd (omega (arith, s.1, p.1)) ]

pub not_true : (b : Bool) → (b ≡ true → ⊥) → b ≡ false
not_true true h = absurd (h refl)
not_true false h = refl

-- of two ids one comes before the other, or they are the same
before_or_after : (a b c d : ℕ) → id_before a b c d ≡ false → id_same a b c d ≡ false → id_before c d a b ≡ true
before_or_after a b c d h k =
    elim (cases_lt c a) as (λ _. id_before c d a b ≡ true) [
      | inl lt ↦ before_from c d a b (inl lt)
      | inr le ↦ elim (cases_lt a c) as (λ _. id_before c d a b ≡ true) [
        | inl gt ↦ let t : true ≡ false = sym (before_from a b c d (inl gt)) ∙ h in cc
        | inr ge ↦
            let e : a ≡ c = omega arith in
            elim (cases_lt d b) as (λ _. id_before c d a b ≡ true) [
              | inl lt ↦ before_from c d a b (inr (sym e, lt))
              | inr more ↦ elim (cases_lt b d) as (λ _. id_before c d a b ≡ true) [
                | inl gt ↦ let t : true ≡ false = sym (before_from a b c d (inr (e, gt))) ∙ h in cc
                | inr less ↦
                    let f : b ≡ d = omega arith in
                    let t : true ≡ false = sym (same_from a b c d e f) ∙ k in
                    cc
              ]
            ]
      ]
    ]

-- an id before another is before one that isn't before that
before_then : (a b c d e f : ℕ) → id_before a b c d ≡ true → id_before e f c d ≡ false → id_before a b e f ≡ true
before_then a b c d e f h k = at (id_same e f c d) refl
  where
    at : (s : Bool) → id_same e f c d ≡ s → id_before a b e f ≡ true
    at true is = let s = same_both e f c d is in rw (s.0, s.1) h
    at false is = before_trans a b c d e f h (before_or_after e f c d k is)

-- an id that another isn't before is before what that is before
then_before : (a b c d e f : ℕ) → id_before c d a b ≡ false → id_before c d e f ≡ true → id_before a b e f ≡ true
then_before a b c d e f h k = at (id_same c d a b) refl
  where
    at : (s : Bool) → id_same c d a b ≡ s → id_before a b e f ≡ true
    at true is = let s = same_both c d a b is in rw (← s.0, ← s.1) k
    at false is = before_trans a b c d e f (before_or_after c d a b h is) k

-- the id of a place is before another where that of a later place is
abbrev pub AreIdsInOrder : {X : Type 0} → (X → ℕ) → (X → ℕ) → List X → Type 0
AreIdsInOrder {X} lib index xs = AllPairs (λ (a b : X). id_before (lib a) (index a) (lib b) (index b) ≡ true) xs

module _ {X : Type 0} (p : X → Bool) where
  -- what fails everywhere isn't found
  pub find_none : (xs : List X) → AllWithin (λ x. p x ≡ false) xs 0 (length xs) → find p xs ≡ None
  find_none [] fails = refl
  find_none (x ∷ xs) fails = rw (fails 0 x (omega arith) (omega arith)) (find_none xs (λ j d from to. fails (suc j) d (omega arith) (omega arith)))

  -- the first element that passes is found
  pub find_at : (xs : List X) (i : ℕ) (d : X) → i < length xs → AllWithin (λ x. p x ≡ false) xs 0 i → p (get_or xs i d) ≡ true → find p xs ≡ Some (get_or xs i d)
  find_at [] i d within fails here = absurd (omega arith)
  find_at (x ∷ xs) zero d within fails here = rw here refl
  find_at (x ∷ xs) (suc i) d within fails here =
      rw (fails 0 x (omega arith) (omega arith)) (find_at xs i d (omega arith) (λ j e from to. fails (suc j) e (omega arith) (omega arith)) here)

module _ {X : Type 0} (lib index : X → ℕ) (xs : List X) (order : AreIdsInOrder lib index xs) (l i : ℕ) where
  abbrev pub stands_before : X → Bool
  stands_before x = id_before (lib x) (index x) l i

  abbrev pub is_it : X → Bool
  is_it x = id_same (lib x) (index x) l i

  pub partitioned : IsPartitionedBy stands_before xs
  partitioned j k d le in_range h =
      elim (cases_lt j k) as (λ _. stands_before (get_or xs j d) ≡ true) [
        | inl lt ↦ before_trans (lib (get_or xs j d)) (index (get_or xs j d)) (lib (get_or xs k d)) (index (get_or xs k d)) l i (order j k d lt in_range) h
        | inr ge ↦ let e : k ≡ j = omega arith in subst (λ (m : ℕ). stands_before (get_or xs m d) ≡ true) e h
      ]

  -- the element with the id is found, wherever it stands
  pub found_anywhere : (k : ℕ) (d : X) → k < length xs → is_it (get_or xs k d) ≡ true → find is_it xs ≡ Some (get_or xs k d)
  found_anywhere k d within same = find_at is_it xs k d within earlier same
    where
      earlier : AllWithin (λ x. is_it x ≡ false) xs 0 k
      earlier j e from to = not_true _ (λ also.
          let p = same_both (lib (get_or xs j e)) (index (get_or xs j e)) l i also in
          let here : is_it (get_or xs k e) ≡ true = rw (get_or_default xs k e d within) same in
          let q = same_both (lib (get_or xs k e)) (index (get_or xs k e)) l i here in
          before_other (lib (get_or xs j e)) (index (get_or xs j e)) (lib (get_or xs k e)) (index (get_or xs k e)) (order j k e to within)
          (same_from (lib (get_or xs j e)) (index (get_or xs j e)) (lib (get_or xs k e)) (index (get_or xs k e)) (p.0 ∙ sym q.0) (p.1 ∙ sym q.1)))

  module _ (at : ℕ) (parted : IsPartitionPoint (λ x. stands_before x ≡ true) (λ x. stands_before x ≡ false) xs at) where
    -- what stands before the place has another id
    other_before : AllWithin (λ x. is_it x ≡ false) xs 0 at
    other_before j d from to = not_true _ (λ same. before_other (lib (get_or xs j d)) (index (get_or xs j d)) l i (parted.0 j d from to) same)

    -- the element with the id is found at the place
    pub found : (d : X) → at < length xs → is_it (get_or xs at d) ≡ true → find is_it xs ≡ Some (get_or xs at d)
    found d within same = find_at is_it xs at d within other_before same

    -- where the place is the end, none has the id
    pub none_at_end : length xs ≤ at → find is_it xs ≡ None
    none_at_end end = find_none is_it xs (λ j d from to. other_before j d from (omega arith))

    -- where another id stands at the place, none has the id
    pub none_there : (d : X) → at < length xs → is_it (get_or xs at d) ≡ false → find is_it xs ≡ None
    none_there d within other = find_none is_it xs at_each
      where
        behind : (j : ℕ) (e : X) → at ≤ j → j < length xs → is_it (get_or xs at e) ≡ false → is_it (get_or xs j e) ≡ false
        behind j e le to no_match =
            let here = before_or_after (lib (get_or xs at e)) (index (get_or xs at e)) l i (parted.1 at e (omega arith) within) no_match in
            elim (cases_lt at j) as (λ _. is_it (get_or xs j e) ≡ false) [
              | inl lt ↦ not_true _ (λ same.
                  let s = same_both (lib (get_or xs j e)) (index (get_or xs j e)) l i same in
                  let m = before_trans l i (lib (get_or xs at e)) (index (get_or xs at e)) (lib (get_or xs j e)) (index (get_or xs j e)) here (order at j e lt to) in
                  before_other l i (lib (get_or xs j e)) (index (get_or xs j e)) m (same_from l i (lib (get_or xs j e)) (index (get_or xs j e)) (sym s.0) (sym s.1)))
              | inr ge ↦ let f : at ≡ j = omega arith in subst (λ (m : ℕ). is_it (get_or xs m e) ≡ false) f no_match
            ]

        at_each : AllWithin (λ x. is_it x ≡ false) xs 0 (length xs)
        at_each j e from to =
            elim (cases_lt j at) as (λ _. is_it (get_or xs j e) ≡ false) [
              | inl lt ↦ other_before j e from lt
              | inr ge ↦ behind j e ge to (rw (get_or_default xs at e d within) other)
            ]

pub from_not_true : (b : Bool) → not b ≡ true → b ≡ false
from_not_true true h = cc
from_not_true false h = refl

pub from_not_false : (b : Bool) → not b ≡ false → b ≡ true
from_not_false true h = refl
from_not_false false h = cc

-- no place has an id before that of an earlier place
abbrev pub AreIdsRising : {X : Type 0} → (X → ℕ) → (X → ℕ) → List X → Type 0
AreIdsRising {X} lib index xs = AllPairs (λ (a b : X). id_before (lib b) (index b) (lib a) (index a) ≡ false) xs

module _ {X : Type 0} (p : X → Bool) where
  filter_none : (xs : List X) → AllWithin (λ x. p x ≡ false) xs 0 (length xs) → filter p xs ≡ []
  filter_none [] fails = refl
  filter_none (x ∷ xs) fails = rw (fails 0 x (omega arith) (omega arith)) (filter_none xs (λ j d from to. fails (suc j) d (omega arith) (omega arith)))

  -- what passes between two places and nowhere else is the part between them
  filter_between : (xs : List X) (i k : ℕ) → i + k ≤ length xs → AllWithin (λ x. p x ≡ false) xs 0 i → AllWithin (λ x. p x ≡ true) xs i (i + k) → AllWithin (λ x. p x ≡ false) xs (i + k) (length xs) → take k (drop i xs) ≡ filter p xs
  filter_between [] zero zero le low mid high = refl
  filter_between [] zero (suc k) le low mid high = absurd (omega arith)
  filter_between [] (suc i) k le low mid high = absurd (omega arith)
  filter_between (x ∷ xs) zero zero le low mid high = sym (filter_none (x ∷ xs) high)
  filter_between (x ∷ xs) zero (suc k) le low mid high =
      rw (mid 0 x (omega arith) (omega arith)) (ap (λ (ys : List X). x ∷ ys) (filter_between xs zero k (omega arith) (λ j d from to. absurd (omega arith)) (λ j d from to. mid (suc j) d (omega arith) (omega arith)) (λ j d from to. high (suc j) d (omega arith) (omega arith))))
  filter_between (x ∷ xs) (suc i) k le low mid high =
      rw (low 0 x (omega arith) (omega arith)) (filter_between xs i k (omega arith) (λ j d from to. low (suc j) d (omega arith) (omega arith)) (λ j d from to. mid (suc j) d (omega arith) (omega arith)) (λ j d from to. high (suc j) d (omega arith) (omega arith)))

module _ {X : Type 0} (lib index : X → ℕ) (xs : List X) (rising : AreIdsRising lib index xs) (l i : ℕ) where
  abbrev comes_before : X → Bool
  comes_before x = id_before (lib x) (index x) l i

  abbrev comes_after : X → Bool
  comes_after x = id_before l i (lib x) (index x)

  pub rising_partitioned : IsPartitionedBy comes_before xs
  rising_partitioned j k d le in_range h =
      elim (cases_lt j k) as (λ _. comes_before (get_or xs j d) ≡ true) [
        | inl lt ↦ then_before (lib (get_or xs j d)) (index (get_or xs j d)) (lib (get_or xs k d)) (index (get_or xs k d)) l i (rising j k d lt in_range) h
        | inr ge ↦ let e : k ≡ j = omega arith in subst (λ (m : ℕ). comes_before (get_or xs m d) ≡ true) e h
      ]

  pub not_after_partitioned : IsPartitionedBy (λ x. not (comes_after x)) xs
  not_after_partitioned j k d le in_range h =
      elim (cases_lt j k) as (λ _. not (comes_after (get_or xs j d)) ≡ true) [
        | inl lt ↦ at (comes_after (get_or xs j d)) refl lt
        | inr ge ↦ let e : k ≡ j = omega arith in subst (λ (m : ℕ). not (comes_after (get_or xs m d)) ≡ true) e h
      ]
    where
      at : (b : Bool) → comes_after (get_or xs j d) ≡ b → j < k → not b ≡ true
      at false is lt = refl
      at true is lt =
          let m = before_then l i (lib (get_or xs j d)) (index (get_or xs j d)) (lib (get_or xs k d)) (index (get_or xs k d)) is (rising j k d lt in_range) in
          subst (λ (b : Bool). not b ≡ true) m h

  module _ (from to : ℕ) (in_from : from ≤ length xs) (in_to : to ≤ length xs) (low : IsPartitionPoint (λ x. comes_before x ≡ true) (λ x. comes_before x ≡ false) xs from) (high : IsPartitionPoint (λ x. comes_after x ≡ false) (λ x. comes_after x ≡ true) xs to) where
    apart : (x : X) → comes_before x ≡ true → comes_after x ≡ true → ⊥
    apart x h k = before_other (lib x) (index x) (lib x) (index x) (before_trans (lib x) (index x) l i (lib x) (index x) h k) (same_from (lib x) (index x) (lib x) (index x) refl refl)

    -- the elements with the id end where others begin, or later
    pub from_before_to : (d : X) → from ≤ to
    from_before_to d =
        elim (cases_lt to from) as (λ _. from ≤ to) [
          | inl lt ↦ absurd (apart (get_or xs to d) (low.0 to d (omega arith) lt) (high.1 to d (omega arith) (omega arith)))
          | inr ge ↦ ge
        ]

    abbrev has_id : X → Bool
    has_id x = id_same (lib x) (index x) l i

    neither : (x : X) → comes_before x ≡ false → comes_after x ≡ false → has_id x ≡ true
    neither x h k = at (has_id x) refl
      where
        at : (b : Bool) → has_id x ≡ b → has_id x ≡ true
        at true is = is
        at false is = let t : true ≡ false = sym (before_or_after (lib x) (index x) l i h is) ∙ k in cc

    before_without : (x : X) → comes_before x ≡ true → has_id x ≡ false
    before_without x h = not_true (has_id x) (λ same. before_other (lib x) (index x) l i h same)

    after_without : (x : X) → comes_after x ≡ true → has_id x ≡ false
    after_without x h =
        not_true (has_id x) (λ same.
        let s = same_both (lib x) (index x) l i same in
        before_other l i (lib x) (index x) h (same_from l i (lib x) (index x) (sym s.0) (sym s.1)))

    -- the elements with the id stand between the two places
    pub of_id : from ≤ to → take (to - from) (drop from xs) ≡ filter has_id xs
    of_id le =
        let e : from + (to - from) ≡ to = omega arith in
        filter_between has_id xs from (to - from) (omega arith)
        (λ j d at_least below. before_without (get_or xs j d) (low.0 j d at_least below))
        (λ j d at_least below. neither (get_or xs j d) (low.1 j d at_least (omega arith)) (high.0 j d (omega arith) (omega arith)))
        (λ j d at_least below. after_without (get_or xs j d) (high.1 j d (omega arith) below))
