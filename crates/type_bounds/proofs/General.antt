-- Tests, options, lists, and how many types a list has.
use Rattle.std.proofs.Common.{◌≡◌, ℕ, zero, suc, ◌+◌, ◌<◌, ◌≤◌, Bool, true, false, IsTrue, List, [], ◌∷◌, length, take, get_or, filter, map, nat_eq, Option, Some, None, refl, ap, subst, cond, arith}
use Rattle.std.specs.Prelude.{◌↔◌, All, AllPairs, Contains, find}
use Rattle.std.specs.Option.{option_map}
use Rattle.std.proofs.lemmas.Bool.{and_parts}
use Rattle.std.proofs.lemmas.Bool.Decides.{nat_tests}
use Rattle.std.proofs.lemmas.List.{get_or_default, take_all}
use Rattle.std.proofs.lemmas.List.Elements.{All-contains, All-contains_itself, All-filter, All-more, filter_passes}
use Rattle.std.proofs.Math.ListN.{get_or-map, length-map}
use Rattle.dart_types.specs.Ty.{Ty, Types, invalid, never, void, null, interface, function, variable, promoted, nullable, no_more, more, count, types_of}
use Rattle.dart_types.specs.Heads.{is_object}
use Rattle.dart_types.specs.Marks.{takes_mark}
use Rattle.dart_types.specs.Normal.{normal_all, nullable_of}
use Rattle.dart_types.specs.Same.{same_class, same_var}
use Rattle.dart_types.specs.Sizes.{size_of}
use Rattle.dart_types.specs.Substitution.{put_all}
use Rattle.dart_types.specs.declared.ids.ClassId.{ClassId}
use Rattle.dart_types.specs.declared.ids.VarId.{VarId}
use Rattle.dart_types.specs.declared.ids.TheConstants.{OBJECT}

-- the test of numbers holds just at equal ones
pub nat_from_test : (m n : ℕ) → nat_eq m n ≡ true → m ≡ n
nat_from_test m n h = grind (arith, nat_tests)

pub nat_eq-refl : (n : ℕ) → nat_eq n n ≡ true
nat_eq-refl n = grind (arith, nat_tests)

-- the tests of ids hold just at equal ones
pub equal_from_same_class : (c d : ClassId) → same_class c d ≡ true → c ≡ d
equal_from_same_class c d h =
    let b = and_parts (nat_eq c.lib.0 d.lib.0) (nat_eq c.index d.index) h in
    let l : c.lib.0 ≡ d.lib.0 = nat_from_test _ _ b.0 in
    let i : c.index ≡ d.index = nat_from_test _ _ b.1 in
    λ k. record { lib = record { 0 = l k }; index = i k }

pub same_class-refl : (c : ClassId) → same_class c c ≡ true
same_class-refl c = rw (nat_eq-refl, nat_eq-refl) refl

pub equal_from_same_var : (x y : VarId) → same_var x y ≡ true → x ≡ y
equal_from_same_var x y h =
    let b = and_parts (nat_eq x.lib.0 y.lib.0) (nat_eq x.index y.index) h in
    let l : x.lib.0 ≡ y.lib.0 = nat_from_test _ _ b.0 in
    let i : x.index ≡ y.index = nat_from_test _ _ b.1 in
    λ k. record { lib = record { 0 = l k }; index = i k }

-- the class of `Object` is OBJECT
pub class_of_object : (c : ClassId) (ss : Types) → is_object (interface c ss) ≡ true → c ≡ OBJECT
class_of_object c no_more h = equal_from_same_class c OBJECT h
class_of_object c (more s ss) h = cc

-- there are as many types as in the list that they are made of, and as many in normal form and with types put in
pub count-types_of : (ts : List Ty) → count (types_of ts) ≡ length ts
count-types_of [] = refl
count-types_of (t ∷ ts) = omega (arith, count-types_of ts)

pub count-normal_all : (ts : Types) → count (normal_all ts) ≡ count ts
count-normal_all no_more = refl
count-normal_all (more t ts) = ap (λ k. k + 1) (count-normal_all ts)

pub count-put_all : (σ : VarId → Ty) (ts : Types) → count (put_all σ ts) ≡ count ts
count-put_all σ no_more = refl
count-put_all σ (more t ts) = ap (λ k. k + 1) (count-put_all σ ts)

-- a `?` that stays is one node more, and one that doesn't is none
pub size_marked : (u : Ty) → takes_mark u ≡ true → size_of (nullable_of u) ≡ size_of u + 1
size_marked invalid h = refl
size_marked never h = cc
size_marked void h = cc
size_marked null h = cc
size_marked (interface c ts) h = omega arith
size_marked (function r o n e) h = omega arith
size_marked (variable x) h = refl
size_marked (promoted x t) h = omega arith
size_marked (nullable t) h = cc

pub size_unmarked : (u : Ty) → takes_mark u ≡ false → size_of (nullable_of u) ≡ size_of u
size_unmarked invalid h = cc
size_unmarked never h = refl
size_unmarked void h = refl
size_unmarked null h = refl
size_unmarked (interface c ts) h = cc
size_unmarked (function r o n e) h = cc
size_unmarked (variable x) h = cc
size_unmarked (promoted x t) h = cc
size_unmarked (nullable t) h = refl

-- an answer, and what it says
pub yes : {A : Type 0} → A → IsTrue true ↔ A
yes a = (λ _. a, λ _. refl)

pub no : {A : Type 0} → (A → ⊥) → IsTrue false ↔ A
no f = (λ h. cc, λ a. absurd (f a))

pub granted : {A : Type 0} {r : Bool} → IsTrue r ↔ A → r ≡ true → A
granted p e = p.0 e

pub refused : {A : Type 0} {r : Bool} → IsTrue r ↔ A → r ≡ false → A → ⊥
refused {r = r} p e a = let k : r ≡ true = p.1 a in cc

-- what is found in a list is in it, and passes the test
pub found_in : {X : Type 0} (p : X → Bool) (xs : List X) (x : X) → find p xs ≡ Some x → Contains xs x × (p x ≡ true)
found_in p [] x e = cc
found_in {X} p (y ∷ ys) x e = at (p y) refl e (found_in p ys x)
  where
    at : (b : Bool) → p y ≡ b → cond b (Some y) (find p ys) ≡ Some x → (find p ys ≡ Some x → Contains ys x × (p x ≡ true)) → Contains (y ∷ ys) x × (p x ≡ true)
    at true is here later = let same : y ≡ x = cc in ((0, omega arith, same), subst (λ (z : X). p z ≡ true) same is)
    at false is here later = let k = later here in ((suc k.0.0, omega (arith, k.0.1), k.0.2), k.1)

-- what an option holds after a function was what it held before
pub from_mapped : {X Y : Type 0} (f : X → Y) (o : Option X) (y : Y) → option_map f o ≡ Some y → (x : X) × (o ≡ Some x) × (f x ≡ y)
from_mapped f None y e = cc
from_mapped f (Some x) y e = (x, refl, let k : f x ≡ y = cc in k)

-- what holds of each element that is in a list holds of all
pub all_from : {X : Type 0} (P : X → Type 0) (xs : List X) → ((x : X) → Contains xs x → P x) → All P xs
all_from P xs h k d lt = h (get_or xs k d) (k, lt, get_or_default xs k (get_or xs k d) d lt)

-- a test that goes through a list: one more element passes, and all have passed
pub all_next : {X : Type 0} (P : X → Type 0) (xs : List X) (i : ℕ) (x : X) → i < length xs → x ≡ get_or xs i x → All P (take i xs) → P x → All P (take (i + 1) xs)
all_next P xs i x lt is h p = All-more P xs i x lt h (subst P is p)

pub all_done : {X : Type 0} (P : X → Type 0) (xs : List X) (i : ℕ) → length xs ≤ i → All P (take i xs) → All P xs
all_done {X} P xs i end h = subst (λ (ys : List X). All P ys) (take_all i xs end) h

-- the elements that pass a test
pub contains_passed : {X : Type 0} (p : X → Bool) (xs : List X) (x : X) → Contains (filter p xs) x → Contains xs x × (p x ≡ true)
contains_passed {X} p xs x i =
    (All-contains (Contains xs) (filter p xs) x (All-filter p (Contains xs) xs (All-contains_itself xs)) i, All-contains (λ (y : X). p y ≡ true) (filter p xs) x (filter_passes p xs) i)

pub passed_contains : {X : Type 0} (p : X → Bool) (xs : List X) (x : X) → Contains xs x → p x ≡ true → Contains (filter p xs) x
passed_contains p [] x c h = absurd (omega (arith, c.1))
passed_contains {X} p (y ∷ ys) x c h = at c.0 (omega (arith, c.1)) c.2 (p y) refl (λ k. passed_contains p ys x k h)
  where
    at : (i : ℕ) → i < length ys + 1 → get_or (y ∷ ys) i x ≡ x → (b : Bool) → p y ≡ b → (Contains ys x → Contains (filter p ys) x) → Contains (cond b (y ∷ filter p ys) (filter p ys)) x
    at zero lt e true is go = (0, omega arith, e)
    at zero lt e false is go = let k : p x ≡ false = subst (λ (z : X). p z ≡ false) e is in cc
    at (suc i) lt e true is go = let k = go (i, omega arith, e) in (suc k.0, omega (arith, k.1), k.2)
    at (suc i) lt e false is go = go (i, omega arith, e)

-- what holds of all pairs of images holds of the pairs that they are images of
pub AllPairs-map : {X Y : Type 0} (f : X → Y) (R : Y → Y → Type 0) (xs : List X) → AllPairs R (map f xs) → AllPairs (λ (a b : X). R (f a) (f b)) xs
AllPairs-map {X} {Y} f R xs h i j d lt within =
    subst (λ (y : Y). R y (f (get_or xs j d))) (get_or-map f xs i d)
    (subst (λ (y : Y). R (get_or (map f xs) i (f d)) y) (get_or-map f xs j d) (h i j (f d) lt (rw (length-map xs f) within)))
