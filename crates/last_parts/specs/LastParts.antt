-- What a descent leaves is a last part of the tokens that it was given.
use Rattle.std.proofs.Common.{◌≡◌, ℕ, zero, suc, ◌+◌, ◌-◌, min, Bool, true, false, List, [], ◌∷◌, Option, Some, None, option_map, length, drop, take, if◌then◌else◌, refl, ap, sym, subst, ◌∙◌, arith}
use Rattle.std.proofs.lemmas.List.{drop-drop, drop_min, length-drop}
use Rattle.readings.specs.Readings.{Reading, Test, behind, made, tokens_read, listed, first_behind}
use Rattle.readings.specs.Descent.{Descent, bind, or_else, take_token, take_given, ◌▸◌, ◌⊘◌, take_make, take_turn, take_maybe, take_at_most, take_many, take_onto, take_chain, complete, take_where, take_before, take_only, take_within, take_inside, take_once, climb, take_levels, take_at_most_elements, take_elements}
use Rattle.readings.specs.Values.{Maybe}

-- us is what is left of ts behind some count of tokens
abbrev pub IsLast : {T : Type 0} → List T → List T → Type 0
IsLast us ts = (k : ℕ) × (us ≡ drop k ts)

pub last_self : {T : Type 0} (ts : List T) → IsLast ts ts
last_self ts = (zero, refl)

-- a last part is known by its length
pub last_of : {T : Type 0} {us ts : List T} → IsLast us ts → us ≡ drop (length ts - length us) ts
last_of {us = us} {ts = ts} l =
    let size : length us ≡ length ts - l.0 = ap length l.1 ∙ length-drop l.0 ts in
    let count : min l.0 (length ts) ≡ length ts - length us = omega (arith, size) in
    l.1 ∙ sym (drop_min l.0 ts) ∙ ap (λ (n : ℕ). drop n ts) count

-- a last part of a last part is one of the whole
pub last_twice : {T : Type 0} {us vs ts : List T} → IsLast us ts → IsLast vs us → IsLast vs ts
last_twice {T = T} {us = us} {vs = vs} {ts = ts} l m = (l.0 + m.0, m.1 ∙ ap (λ (ws : List T). drop m.0 ws) l.1 ∙ drop-drop m.0 l.0 ts)

-- whatever tokens the descent is given, it leaves a last part of them
pub record Leaves {T A : Type 0} (g : Descent T A) : Type 0 where
  pub each : (ts : List T) → Maybe (λ (x : Reading T A). IsLast x.1 ts) (g ts)

found_leaves : {T A : Type 0} (ts : List T) (o : Option (Reading T A)) (x : Reading T A) →
    Maybe (λ (y : Reading T A). IsLast y.1 ts) o → o ≡ Some x → IsLast x.1 ts
found_leaves {T = T} {A = A} ts o x h e = subst (λ (p : Option (Reading T A)). Maybe (λ (y : Reading T A). IsLast y.1 ts) p) e h

-- what is left behind a reading that was found
pub left_of : {T A : Type 0} {g : Descent T A} → Leaves g → (ts : List T) (x : Reading T A) → g ts ≡ Some x → IsLast x.1 ts
left_of {g = g} a ts x e = found_leaves ts (g ts) x (a.each ts) e

-- what goes on with what is left leaves a last part of the whole
further : {T A : Type 0} (ts us : List T) → IsLast us ts → (o : Option (Reading T A)) →
    Maybe (λ (x : Reading T A). IsLast x.1 us) o → Maybe (λ (x : Reading T A). IsLast x.1 ts) o
further ts us l None h = tt
further ts us l (Some x) h = last_twice {us = us} {vs = x.1} {ts = ts} l h

bound : {T A B : Type 0} (ts : List T) (f : Reading T A → Option (Reading T B)) (o : Option (Reading T A)) → Maybe (λ (x : Reading T A). IsLast x.1 ts) o →
    ((x : Reading T A) → Maybe (λ (y : Reading T B). IsLast y.1 x.1) (f x)) → Maybe (λ (y : Reading T B). IsLast y.1 ts) (bind o f)
bound ts f None h k = tt
bound ts f (Some x) h k = further ts x.1 h (f x) (k x)

if_found : {A : Type 0} (P : A → Type 0) (b : Bool) (o p : Option A) → Maybe P o → Maybe P p → Maybe P (if b then o else p)
if_found P true o p h k = h
if_found P false o p h k = k

or_found : {T A : Type 0} (P : Reading T A → Type 0) (o p : Option (Reading T A)) → Maybe P o → Maybe P p → Maybe P (or_else o p)
or_found P None p h k = k
or_found P (Some x) p h k = h

option_found : {A B : Type 0} (Q : B → Type 0) (f : A → B) (o : Option A) → ((a : A) → Q (f a)) → Maybe Q (option_map f o)
option_found Q f None h = tt
option_found Q f (Some a) h = h a

-- Tokens, and one behind the other.

pub leaves_none : {T A : Type 0} → Leaves {T = T} {A = A} (λ ts. None)
leaves_none = record { each = λ ts. tt }

pub leaves_token : {T : Type 0} (f : T → Bool) → Leaves (take_token f)
leaves_token {T = T} f = record { each = left } where
  left : (ts : List T) → Maybe (λ (x : Reading T T). IsLast x.1 ts) (take_token f ts)
  left [] = tt
  left (t ∷ ts) = if_found (λ (x : Reading T T). IsLast x.1 (t ∷ ts)) (f t) (Some (t, ts)) None (1, refl) tt

pub leaves_given : {T A : Type 0} (a : A) → Leaves {T = T} (take_given a)
leaves_given a = record { each = λ ts. last_self ts }

pub leaves_seq : {T A B : Type 0} {g : Descent T A} {h : Descent T B} → Leaves g → Leaves h → Leaves (g ▸ h)
leaves_seq {g = g} {h = h} a b = record {
  each = λ ts. bound ts (λ x. bind (h x.1) (λ y. Some (behind x.0 y))) (g ts) (a.each ts) (λ x. bound x.1 (λ y. Some (behind x.0 y)) (h x.1) (b.each x.1) (λ y. last_self y.1));
}

pub leaves_or : {T A : Type 0} {g h : Descent T A} → Leaves g → Leaves h → Leaves (g ⊘ h)
leaves_or {T = T} {A = A} {g = g} {h = h} a b = record { each = λ ts. or_found (λ (x : Reading T A). IsLast x.1 ts) (g ts) (h ts) (a.each ts) (b.each ts) }

pub leaves_make : {T A B : Type 0} {g : Descent T A} (of : List T → A → B) → Leaves g → Leaves (take_make of g)
leaves_make {g = g} of a = record { each = λ ts. bound ts (λ x. Some (made of ts x)) (g ts) (a.each ts) (λ x. last_self x.1) }

pub leaves_turn : {T A B : Type 0} {g : Descent T A} (of : A → B) → Leaves g → Leaves (take_turn of g)
leaves_turn of a = leaves_make (λ read x. of x) a

pub leaves_maybe : {T A : Type 0} {g : Descent T A} → Leaves g → Leaves (take_maybe g)
leaves_maybe a = leaves_or (leaves_turn (λ a. Some a) a) (leaves_given None)

leaves_at_most : {T A : Type 0} {g : Descent T A} (n : ℕ) → Leaves g → Leaves (take_at_most n g)
leaves_at_most zero a = leaves_given []
leaves_at_most (suc n) a = leaves_or (leaves_turn listed (leaves_seq a (leaves_at_most n a))) (leaves_given [])

pub leaves_many : {T A : Type 0} {g : Descent T A} → Leaves g → Leaves (take_many g)
leaves_many a = record { each = λ ts. (leaves_at_most (length ts) a).each ts }

-- Repeats: right sides leave a last part of the tokens behind what stands on the left.

pub leaves_onto : {T A B : Type 0} {h : Descent T B} (start : List T) (n : ℕ) (room : A → Bool) (join : List T → A → B → A) → Leaves h →
    (left : A) → Leaves (take_onto start n room join h left)
leaves_onto start zero room join b left = record { each = λ ts. last_self ts }
leaves_onto {T = T} {A = A} {h = h} start (suc n) room join b left = record {
  each = λ ts.
      if_found (λ (x : Reading T A). IsLast x.1 ts) (room left)
      (or_else (bind (h ts) (λ y. take_onto start n room join h (join (tokens_read start y.1) left y.0) y.1)) (Some (left, ts))) (Some (left, ts))
      (or_found (λ (x : Reading T A). IsLast x.1 ts) (bind (h ts) (λ y. take_onto start n room join h (join (tokens_read start y.1) left y.0) y.1)) (Some (left, ts))
      (bound ts (λ y. take_onto start n room join h (join (tokens_read start y.1) left y.0) y.1) (h ts) (b.each ts)
      (λ y. (leaves_onto start n room join b (join (tokens_read start y.1) left y.0)).each y.1)) (last_self ts)) (last_self ts);
}

pub leaves_chain : {T A B : Type 0} {g : Descent T A} {h : Descent T B} (most : A → List T → ℕ) (room : A → Bool) (join : List T → A → B → A) → Leaves g → Leaves h →
    Leaves (take_chain most room join g h)
leaves_chain {g = g} {h = h} most room join a b = record {
  each = λ ts. bound ts (λ x. take_onto ts (most x.0 x.1) room join h x.0 x.1) (g ts) (a.each ts) (λ x. (leaves_onto ts (most x.0 x.1) room join b x.0).each x.1);
}

pub leaves_once : {T A B : Type 0} {g : Descent T A} {h : Descent T B} (room : A → Bool) (join : List T → A → B → A) → Leaves g → Leaves h →
    Leaves (take_once room join g h)
leaves_once {T = T} {A = A} {g = g} {h = h} room join a b = record {
  each = λ ts.
      bound ts (λ x. if room x.0 then bind (h x.1) (λ y. Some (join (tokens_read ts y.1) x.0 y.0, y.1)) else None) (g ts) (a.each ts)
      (λ x.
      if_found (λ (y : Reading T A). IsLast y.1 x.1) (room x.0) (bind (h x.1) (λ y. Some (join (tokens_read ts y.1) x.0 y.0, y.1))) None
      (bound x.1 (λ y. Some (join (tokens_read ts y.1) x.0 y.0, y.1)) (h x.1) (b.each x.1) (λ y. last_self y.1)) tt);
}

-- levels behind an operand that has been read
pub leaves_climb : {T A B R : Type 0} {right : R → List R → Descent T B} (most : R → A → List T → ℕ) (room : A → Bool) (join : List T → A → B → A) →
    ((r : R) (above : List R) → Leaves (right r above)) → (start : List T) (rs : List R) (x : Reading T A) → Maybe (λ (y : Reading T A). IsLast y.1 x.1) (climb most room join right start rs x)
leaves_climb most room join each start [] x = last_self x.1
leaves_climb {right = right} most room join each start (r ∷ rs) x =
    bound x.1 (λ y. take_onto start (most r y.0 y.1) room join (right r rs) y.0 y.1) (climb most room join right start rs x) (leaves_climb most room join each start rs x)
    (λ y. (leaves_onto start (most r y.0 y.1) room join (each r rs) y.0).each y.1)

pub leaves_levels : {T A B R : Type 0} {right : R → List R → Descent T B} {first : Descent T A} (most : R → A → List T → ℕ) (room : A → Bool) (join : List T → A → B → A) →
    ((r : R) (above : List R) → Leaves (right r above)) → Leaves first → (rs : List R) → Leaves (take_levels most room join right first rs)
leaves_levels most room join each a [] = a
leaves_levels most room join each a (r ∷ rs) = leaves_chain (most r) room join (leaves_levels most room join each a rs) (each r rs)

-- Choices by tests.

pub leaves_where : {T A : Type 0} {g h : Descent T A} (c : Test T) → Leaves g → Leaves h → Leaves (take_where c g h)
leaves_where {T = T} {A = A} {g = g} {h = h} c a b = record { each = λ ts. if_found (λ (x : Reading T A). IsLast x.1 ts) (c ts) (g ts) (h ts) (a.each ts) (b.each ts) }

pub leaves_before : {T A : Type 0} {g : Descent T A} (c : Test T) → Leaves g → Leaves (take_before c g)
leaves_before {T = T} {A = A} {g = g} c a = record {
  each = λ ts. bound ts (λ x. if c x.1 then Some x else None) (g ts) (a.each ts) (λ x. if_found (λ (y : Reading T A). IsLast y.1 x.1) (c x.1) (Some x) None (last_self x.1) tt);
}

pub leaves_only : {T A : Type 0} {g : Descent T A} (c : A → Bool) → Leaves g → Leaves (take_only c g)
leaves_only {T = T} {A = A} {g = g} c a = record {
  each = λ ts. bound ts (λ x. if c x.0 then Some x else None) (g ts) (a.each ts) (λ x. if_found (λ (y : Reading T A). IsLast y.1 x.1) (c x.0) (Some x) None (last_self x.1) tt);
}

-- Groups: what is left stands behind the group, whatever is read in it.

pub leaves_inside : {T A : Type 0} (opens : T → Bool) (width past : T → ℕ) (g : Descent T A) → Leaves (take_inside opens width past g)
leaves_inside {T = T} {A = A} opens width past g = record { each = left } where
  left : (ts : List T) → Maybe (λ (x : Reading T (T × A)). IsLast x.1 ts) (take_inside opens width past g ts)
  left [] = tt
  left (t ∷ ts) =
      if_found (λ (x : Reading T (T × A)). IsLast x.1 (t ∷ ts)) (opens t) (option_map (λ a. ((t, a), drop (past t) ts)) (complete (g (take (width t) ts)))) None
      (option_found (λ (x : Reading T (T × A)). IsLast x.1 (t ∷ ts)) (λ a. ((t, a), drop (past t) ts)) (complete (g (take (width t) ts))) (λ a. (suc (past t), refl))) tt

pub leaves_within : {T A : Type 0} (size : List T → ℕ) (g : Descent T A) → Leaves (take_within size g)
leaves_within {T = T} {A = A} size g = record {
  each = λ ts. option_found (λ (x : Reading T A). IsLast x.1 ts) (λ a. (a, drop (size ts) ts)) (complete (g (take (size ts) ts))) (λ a. (size ts, refl));
}

-- Lists.

leaves_at_most_elements : {T A B : Type 0} {g : Descent T A} {comma : Descent T B} (n : ℕ) → Leaves g → Leaves comma → Leaves (take_at_most_elements n g comma)
leaves_at_most_elements zero a b = leaves_given []
leaves_at_most_elements (suc n) a b = leaves_or (leaves_turn first_behind (leaves_seq a (leaves_maybe (leaves_seq b (leaves_at_most_elements n a b))))) (leaves_given [])

pub leaves_elements : {T A B : Type 0} {g : Descent T A} {comma : Descent T B} → Leaves g → Leaves comma → Leaves (take_elements g comma)
leaves_elements a b = record { each = λ ts. (leaves_at_most_elements (length ts) a b).each ts }
