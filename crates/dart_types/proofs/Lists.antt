-- What stands in lists that are made of others.
use Rattle.std.proofs.Common.{◌≡◌, ◌+◌, ◌<◌, ℕ, zero, suc, Bool, true, false, List, [], ◌∷◌, length, map, filter, get_or, cond, refl, sym, ◌∙◌, ap, subst, arith, inl, inr}
use Rattle.std.specs.Prelude.{◌⊎◌, ◌||◌, Contains}
use Rattle.std.specs.List.{list_any}
use Rattle.std.proofs.lemmas.List.{get_or-map, length-map}
use Rattle.std.proofs.lemmas.List.Folds.{list_any_at}

-- the elements that pass a test
pub contains_passed : {X : Type 0} (p : X → Bool) (xs : List X) (x : X) → Contains (filter p xs) x → Contains xs x × (p x ≡ true)
contains_passed p [] x c = absurd (omega (arith, c.1))
contains_passed {X} p (y ∷ ys) x c = at (p y) refl c (contains_passed p ys x)
  where
    later : Contains ys x × (p x ≡ true) → Contains (y ∷ ys) x × (p x ≡ true)
    later k = ((suc k.0.0, omega (arith, k.0.1), k.0.2), k.1)

    here : (i : ℕ) → i < length (filter p ys) + 1 → get_or (y ∷ filter p ys) i x ≡ x → p y ≡ true → (Contains (filter p ys) x → Contains ys x × (p x ≡ true)) → Contains (y ∷ ys) x × (p x ≡ true)
    here zero lt e is go = ((0, omega arith, e), subst (λ (z : X). p z ≡ true) e is)
    here (suc i) lt e is go = later (go (i, omega arith, e))

    at : (b : Bool) → p y ≡ b → Contains (cond b (y ∷ filter p ys) (filter p ys)) x → (Contains (filter p ys) x → Contains ys x × (p x ≡ true)) → Contains (y ∷ ys) x × (p x ≡ true)
    at true is k go = here k.0 (omega (arith, k.1)) k.2 is go
    at false is k go = later (go k)

pub passed_contains : {X : Type 0} (p : X → Bool) (xs : List X) (x : X) → Contains xs x → p x ≡ true → Contains (filter p xs) x
passed_contains p [] x c h = absurd (omega (arith, c.1))
passed_contains {X} p (y ∷ ys) x c h = at c.0 (omega (arith, c.1)) c.2 (p y) refl (λ k. passed_contains p ys x k h)
  where
    at : (i : ℕ) → i < length ys + 1 → get_or (y ∷ ys) i x ≡ x → (b : Bool) → p y ≡ b → (Contains ys x → Contains (filter p ys) x) → Contains (cond b (y ∷ filter p ys) (filter p ys)) x
    at zero lt e true is go = (0, omega arith, e)
    at zero lt e false is go = let k : p x ≡ false = subst (λ (z : X). p z ≡ false) e is in cc
    at (suc i) lt e true is go = let k = go (i, omega arith, e) in (suc k.0, omega (arith, k.1), k.2)
    at (suc i) lt e false is go = go (i, omega arith, e)

-- an element's image stands among the images
pub Contains-map : {X Y : Type 0} (f : X → Y) (xs : List X) (x : X) → Contains xs x → Contains (map f xs) (f x)
Contains-map f xs x i = (i.0, rw (length-map xs f) i.1, get_or-map f xs i.0 x (f x) i.1 ∙ ap f i.2)

-- what stands among the images is the image of an element
pub from_map : {X Y : Type 0} (f : X → Y) (xs : List X) (y : Y) → Contains (map f xs) y → (x : X) × Contains xs x × (f x ≡ y)
from_map f [] y i = absurd (omega (arith, i.1))
from_map f (x ∷ xs) y (zero, lt, e) = (x, (0, omega arith, refl), e)
from_map f (x ∷ xs) y (suc k, lt, e) = let r = from_map f xs y (k, omega arith, e) in (r.0, (suc r.1.0, omega (arith, r.1.1), r.1.2), r.2)

pub either_true : (a b : Bool) → (a || b) ≡ true → (a ≡ true) ⊎ (b ≡ true)
either_true true b h = inl refl
either_true false b h = inr h

pub any_there : {X : Type 0} (p : X → Bool) (xs : List X) → list_any p xs ≡ true → (x : X) × Contains xs x × (p x ≡ true)
any_there p [] h = cc
any_there {X} p (x ∷ xs) h = at (either_true (p x) (list_any p xs) h) (λ k. any_there p xs k)
  where
    at : (p x ≡ true) ⊎ (list_any p xs ≡ true) → (list_any p xs ≡ true → (y : X) × Contains xs y × (p y ≡ true)) → (y : X) × Contains (x ∷ xs) y × (p y ≡ true)
    at (inl k) go = (x, (0, omega arith, refl), k)
    at (inr k) go = let q = go k in (q.0, (suc q.1.0, omega (arith, q.1.1), q.1.2), q.2)

pub there_any : {X : Type 0} (p : X → Bool) (xs : List X) (x : X) → Contains xs x → p x ≡ true → list_any p xs ≡ true
there_any p xs x c h = list_any_at p xs c.0 x c.1 (subst (λ y. p y ≡ true) (sym c.2) h)

-- the first element, or one behind it
pub cons_cases : {X : Type 0} (x : X) (xs : List X) (y : X) → Contains (x ∷ xs) y → (x ≡ y) ⊎ Contains xs y
cons_cases x xs y (zero, lt, e) = inl e
cons_cases x xs y (suc i, lt, e) = inr (i, omega arith, e)

pub here_first : {X : Type 0} (x : X) (xs : List X) → Contains (x ∷ xs) x
here_first x xs = (0, omega arith, refl)

pub behind_first : {X : Type 0} (x : X) (xs : List X) (y : X) → Contains xs y → Contains (x ∷ xs) y
behind_first x xs y i = (suc i.0, omega (arith, i.1), i.2)
