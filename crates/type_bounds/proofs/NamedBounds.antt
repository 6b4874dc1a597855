-- Named parameters of two function types and of their bounds.
use Rattle.std.proofs.Common.{◌≡◌, ℕ, Bool, true, false, Some, None, List, refl, subst, cond}
use Rattle.std.specs.Prelude.{◌&&◌, ◌||◌, bytes_eq}
use Rattle.std.specs.Cmp.Lexicographic.{bytes_decides}
use Rattle.std.proofs.lemmas.Bool.{and_parts}
use Rattle.dart_types.specs.Ty.{Ty, Named, no_named, more_named}
use Rattle.dart_types.specs.Named.{has_name, type_named}
use Rattle.dart_types.specs.Sub.{HasNamed, first, later, is_required}
use Rattle.type_bounds.specs.Signatures.{required_are_in}

pub or_true : (a b : Bool) {A : Type 0} → (a || b) ≡ true → (a ≡ true → A) → (b ≡ true → A) → A
or_true true b h f g = f refl
or_true false b h f g = g h

pub or_left : (a b : Bool) → a ≡ true → (a || b) ≡ true
or_left true b h = refl
or_left false b h = cc

pub or_right : (a b : Bool) → b ≡ true → (a || b) ≡ true
or_right true b h = refl
or_right false b h = h

-- what is found by its name is in the list
pub type_is_named : (ns : Named) (m : List ℕ) (t : Ty) → type_named ns m ≡ Some t → HasNamed ns m t
type_is_named no_named m t e = cc
type_is_named (more_named n r u ns) m t e = at (bytes_eq n m) refl e (λ k. type_is_named ns m t k)
  where
    at : (b : Bool) → bytes_eq n m ≡ b → cond b (Some u) (type_named ns m) ≡ Some t → (type_named ns m ≡ Some t → HasNamed ns m t) → HasNamed (more_named n r u ns) m t
    at true is here go =
        let same : u ≡ t = cc in
        let name : n ≡ m = (bytes_decides n m).0 is in
        subst (λ (k : List ℕ). HasNamed (more_named n r u ns) k t) name (subst (λ (v : Ty). HasNamed (more_named n r u ns) n v) same first)
    at false is behind go = later (go behind)

-- a name that isn't found isn't in the list
pub not_named : (ns : Named) (m : List ℕ) → type_named ns m ≡ None → has_name ns m ≡ true → ⊥
not_named no_named m e h = cc
not_named (more_named n r u ns) m e h = at (bytes_eq n m) e h (λ k l. not_named ns m k l)
  where
    at : (b : Bool) → cond b (Some u) (type_named ns m) ≡ None → (b || has_name ns m) ≡ true → (type_named ns m ≡ None → has_name ns m ≡ true → ⊥) → ⊥
    at true here k go = cc
    at false behind k go = go behind k

-- a name that is required is in the list
pub required_is_named : (ns : Named) (m : List ℕ) → is_required ns m ≡ true → has_name ns m ≡ true
required_is_named no_named m h = cc
required_is_named (more_named n r u ns) m h =
    or_true (bytes_eq n m && r) (is_required ns m) h (λ here. or_left (bytes_eq n m) (has_name ns m) (and_parts (bytes_eq n m) r here).0)
    (λ behind. or_right (bytes_eq n m) (has_name ns m) (required_is_named ns m behind))

pub when_true : (r : Bool) {x : Bool} → r ≡ true → cond r x true ≡ true → x ≡ true
when_true true e h = h
when_true false e h = cc

-- and in each list that has all required names of it
pub required_in_other : (ns ms : Named) (m : List ℕ) → required_are_in ns ms ≡ true → is_required ns m ≡ true → has_name ms m ≡ true
required_in_other no_named ms m h k = cc
required_in_other (more_named n r t ns) ms m h k =
    let both = and_parts (cond r (has_name ms n) true) (required_are_in ns ms) h in
    or_true (bytes_eq n m && r) (is_required ns m) k
    (λ here.
    let parts = and_parts (bytes_eq n m) r here in
    let is : n ≡ m = (bytes_decides n m).0 parts.0 in
    subst (λ (l : List ℕ). has_name ms l ≡ true) is (when_true r parts.1 both.0))
    (λ behind. required_in_other ns ms m both.1 behind)

-- the flag of a name's first entry is that of the list where it holds
pub required_here : (n m : List ℕ) (r : Bool) (b : Bool) → bytes_eq n m ≡ true → r ≡ true → ((bytes_eq n m && r) || b) ≡ true
required_here n m r b p q = rw (p, q) refl
