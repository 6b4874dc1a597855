-- Tests, options and lists, and how many types a list has.
use Rattle.std.proofs.Common.{◌≡◌, ℕ, zero, suc, ◌+◌, ◌<◌, ◌≤◌, Bool, true, false, IsTrue, List, [], ◌∷◌, length, take, get_or, filter, nat_eq, Option, Some, None, refl, subst, cond, arith, inl, inr}
use Rattle.std.specs.Prelude.{◌↔◌, ◌⊎◌, All, Contains, find}
use Rattle.std.specs.List.{list_all}
use Rattle.std.specs.Option.{option_map}
use Rattle.std.proofs.lemmas.Bool.{and_parts, and_from}
use Rattle.std.proofs.lemmas.Bool.Decides.{nat_tests}
use Rattle.std.proofs.lemmas.List.{take_all}
use Rattle.std.proofs.lemmas.List.Elements.{All-contains, All-contains_itself, All-filter, All-more, filter_passes}
use Rattle.dart_types.specs.Ty.{Ty, count, types_of}
use Rattle.dart_types.specs.Same.{same_class, same_var}
use Rattle.dart_types.specs.declared.ids.ClassId.{ClassId}
use Rattle.dart_types.specs.declared.ids.VarId.{VarId}

-- a test isn't both true and false
pub clash : {A : Type 0} (b : Bool) → b ≡ true → b ≡ false → A
clash true p q = cc
clash false p q = cc

-- the test of numbers holds just at equal ones
nat_from_test : (m n : ℕ) → nat_eq m n ≡ true → m ≡ n
nat_from_test m n h = grind (arith, nat_tests)

nat_eq-refl : (n : ℕ) → nat_eq n n ≡ true
nat_eq-refl n = grind (arith, nat_tests)

-- and those of ids at equal ones
pub equal_from_same_class : (c d : ClassId) → same_class c d ≡ true → c ≡ d
equal_from_same_class c d h =
    let b = and_parts (nat_eq c.lib.0 d.lib.0) (nat_eq c.index d.index) h in
    let l : c.lib.0 ≡ d.lib.0 = nat_from_test _ _ b.0 in
    let i : c.index ≡ d.index = nat_from_test _ _ b.1 in
    λ k. record { lib = record { 0 = l k }; index = i k }

pub same_class-refl : (c : ClassId) → same_class c c ≡ true
same_class-refl c = rw (nat_eq-refl, nat_eq-refl) refl

pub equal_from_same_var : (x y : VarId) → same_var x y ≡ true → x ≡ y
equal_from_same_var x y h =
    let b = and_parts (nat_eq x.lib.0 y.lib.0) (nat_eq x.index y.index) h in
    let l : x.lib.0 ≡ y.lib.0 = nat_from_test _ _ b.0 in
    let i : x.index ≡ y.index = nat_from_test _ _ b.1 in
    λ k. record { lib = record { 0 = l k }; index = i k }

-- there are as many types as in the list that they are made of
pub count-types_of : (ts : List Ty) → count (types_of ts) ≡ length ts
count-types_of [] = refl
count-types_of (t ∷ ts) = omega (arith, count-types_of ts)

-- an answer, and what it says
pub granted : {A : Type 0} {r : Bool} → IsTrue r ↔ A → r ≡ true → A
granted p e = p.0 e

pub refused : {A : Type 0} {r : Bool} → IsTrue r ↔ A → r ≡ false → A → ⊥
refused {r = r} p e a = let k : r ≡ true = p.1 a in cc

-- what is found in a list is in it, and passes the test
pub found_in : {X : Type 0} (p : X → Bool) (xs : List X) (x : X) → find p xs ≡ Some x → Contains xs x × (p x ≡ true)
found_in p [] x e = cc
found_in {X} p (y ∷ ys) x e = at (p y) refl e (found_in p ys x)
  where
    at : (b : Bool) → p y ≡ b → cond b (Some y) (find p ys) ≡ Some x → (find p ys ≡ Some x → Contains ys x × (p x ≡ true)) → Contains (y ∷ ys) x × (p x ≡ true)
    at true is here later = let same : y ≡ x = cc in ((0, omega arith, same), subst (λ (z : X). p z ≡ true) same is)
    at false is here later = let k = later here in ((suc k.0.0, omega (arith, k.0.1), k.0.2), k.1)

-- what an option holds after a function was what it held before
pub from_mapped : {X Y : Type 0} (f : X → Y) (o : Option X) (y : Y) → option_map f o ≡ Some y → (x : X) × (o ≡ Some x) × (f x ≡ y)
from_mapped f None y e = cc
from_mapped f (Some x) y e = (x, refl, let k : f x ≡ y = cc in k)

-- a test that goes through a list: one more element passes, and all have passed
pub all_next : {X : Type 0} (P : X → Type 0) (xs : List X) (i : ℕ) (x : X) → i < length xs → x ≡ get_or xs i x → All P (take i xs) → P x → All P (take (i + 1) xs)
all_next P xs i x lt is h p = All-more P xs i x lt h (subst P is p)

pub all_done : {X : Type 0} (P : X → Type 0) (xs : List X) (i : ℕ) → length xs ≤ i → All P (take i xs) → All P xs
all_done {X} P xs i end h = subst (λ (ys : List X). All P ys) (take_all i xs end) h

-- the elements that pass a test
pub contains_passed : {X : Type 0} (p : X → Bool) (xs : List X) (x : X) → Contains (filter p xs) x → Contains xs x × (p x ≡ true)
contains_passed {X} p xs x i =
    (All-contains (Contains xs) (filter p xs) x (All-filter p (Contains xs) xs (All-contains_itself xs)) i, All-contains (λ (y : X). p y ≡ true) (filter p xs) x (filter_passes p xs) i)

pub passed_contains : {X : Type 0} (p : X → Bool) (xs : List X) (x : X) → Contains xs x → p x ≡ true → Contains (filter p xs) x
passed_contains p [] x c h = absurd (omega (arith, c.1))
passed_contains {X} p (y ∷ ys) x c h = at c.0 (omega (arith, c.1)) c.2 (p y) refl (λ k. passed_contains p ys x k h)
  where
    at : (i : ℕ) → i < length ys + 1 → get_or (y ∷ ys) i x ≡ x → (b : Bool) → p y ≡ b → (Contains ys x → Contains (filter p ys) x) → Contains (cond b (y ∷ filter p ys) (filter p ys)) x
    at zero lt e true is go = (0, omega arith, e)
    at zero lt e false is go = let k : p x ≡ false = subst (λ (z : X). p z ≡ false) e is in cc
    at (suc i) lt e true is go = let k = go (i, omega arith, e) in (suc k.0, omega (arith, k.1), k.2)
    at (suc i) lt e false is go = go (i, omega arith, e)

module _ {X : Type 0} where
  -- what is in a list is the first or behind it
  pub first_or_later : (x : X) (xs : List X) (y : X) → Contains (x ∷ xs) y → (x ≡ y) ⊎ Contains xs y
  first_or_later x xs y (zero, lt, e) = inl e
  first_or_later x xs y (suc k, lt, e) = inr (k, omega arith, e)

  pub is_first : (x : X) (xs : List X) → Contains (x ∷ xs) x
  is_first x xs = (0, omega arith, refl)

  pub is_later : (x : X) (xs : List X) (y : X) → Contains xs y → Contains (x ∷ xs) y
  is_later x xs y i = (suc i.0, omega (arith, i.1), i.2)

  -- a test of all elements
  pub all_pass : (p : X → Bool) (xs : List X) → list_all p xs ≡ true → (y : X) → Contains xs y → p y ≡ true
  all_pass p [] h y i = absurd (omega (arith, i.1))
  all_pass p (x ∷ xs) h y i =
      let both = and_parts (p x) (list_all p xs) h in
      elim (first_or_later x xs y i) as (λ _. p y ≡ true) [
        | inl e ↦ subst (λ (z : X). p z ≡ true) e both.0
        | inr j ↦ all_pass p xs both.1 y j
      ]

  pub pass_all : (p : X → Bool) (xs : List X) → ((y : X) → Contains xs y → p y ≡ true) → list_all p xs ≡ true
  pass_all p [] h = refl
  pass_all p (x ∷ xs) h = and_from (p x) (list_all p xs) (h x (is_first x xs)) (pass_all p xs (λ y i. h y (is_later x xs y i)))
