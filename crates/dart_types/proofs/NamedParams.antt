-- Which named parameters are required.
use Rattle.std.proofs.Common.{◌≡◌, ℕ, Bool, true, false, List, refl, subst, cond}
use Rattle.std.specs.Prelude.{◌&&◌, ◌||◌, bytes_eq}
use Rattle.std.specs.Cmp.Lexicographic.{bytes_decides}
use Rattle.dart_types.specs.Ty.{Named, no_named, more_named}
use Rattle.dart_types.specs.Sub.{is_required, required_in}
use Rattle.dart_types.proofs.SameIds.{both_true}

or_true : (a b : Bool) {A : Type 0} → (a || b) ≡ true → (a ≡ true → A) → (b ≡ true → A) → A
or_true true b h f g = f refl
or_true false b h f g = g h

when_true : (r : Bool) {x : Bool} → r ≡ true → cond r x true ≡ true → x ≡ true
when_true true e h = h
when_true false e h = cc

when_then : (r : Bool) {x y : Bool} → (x ≡ true → y ≡ true) → cond r x true ≡ true → cond r y true ≡ true
when_then true f h = f h
when_then false f h = h

pub and_true : (a b : Bool) → a ≡ true → b ≡ true → (a && b) ≡ true
and_true a b p q = rw (p, q) refl

-- a name that the first list requires is required by a list that requires all that the first does
pub required_at : (ts us : Named) (m : List ℕ) → required_in ts us ≡ true → is_required ts m ≡ true → is_required us m ≡ true
required_at no_named us m h k = cc
required_at (more_named n r t ts) us m h k =
    let both = both_true (cond r (is_required us n) true) (required_in ts us) h in
    or_true (bytes_eq n m && r) (is_required ts m) k
    (λ here.
    let parts = both_true (bytes_eq n m) r here in
    let is : n ≡ m = (bytes_decides n m).0 parts.0 in
    subst (λ (l : List ℕ). is_required us l ≡ true) is (when_true r parts.1 both.0))
    (λ later. required_at ts us m both.1 later)

-- so requiring no more is transitive
pub required_trans : (ss ts us : Named) → required_in ss ts ≡ true → required_in ts us ≡ true → required_in ss us ≡ true
required_trans no_named ts us h k = refl
required_trans (more_named m r s ss) ts us h k =
    let both = both_true (cond r (is_required ts m) true) (required_in ss ts) h in
    and_true (cond r (is_required us m) true) (required_in ss us) (when_then r (required_at ts us m k) both.0) (required_trans ss ts us both.1 k)

-- where the second list requires each name that the first does, it requires all of them
pub required_from : (ts us : Named) → ((m : List ℕ) → is_required ts m ≡ true → is_required us m ≡ true) → required_in ts us ≡ true
required_from no_named us h = refl
required_from (more_named n r t ts) us h =
    and_true (cond r (is_required us n) true) (required_in ts us) (at r (λ is. h n (here r is)))
    (required_from ts us (λ m k. h m (behind (bytes_eq n m && r) (is_required ts m) k)))
  where
    at : (b : Bool) → (b ≡ true → is_required us n ≡ true) → cond b (is_required us n) true ≡ true
    at true f = f refl
    at false f = refl

    here : (b : Bool) → b ≡ true → ((bytes_eq n n && b) || is_required ts n) ≡ true
    here b is = rw ((bytes_decides n n).1 refl, is) refl

    behind : (a b : Bool) → b ≡ true → (a || b) ≡ true
    behind true b k = refl
    behind false b k = k

-- a list requires what it requires
pub required-refl : (ts : Named) → required_in ts ts ≡ true
required-refl ts = required_from ts ts (λ m h. h)
