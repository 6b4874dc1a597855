-- What a descent pays for: each token that it reads is worth sixteen nodes.
use Rattle.std.proofs.Common.{◌≡◌, ℕ, zero, suc, ◌+◌, ◌≤◌, Bool, true, false, List, [], ◌∷◌, Option, Some, None, option_map, length, take, drop, if◌then◌else◌, refl, ap, subst, sym, arith}
use Rattle.readings.specs.Readings.{Reading, Test, tokens_read, made, behind, listed, first_behind, whole_or, item_or_error}
use Rattle.readings.specs.Descent.{Descent, bind, or_else, take_token, take_given, ◌▸◌, ◌⊘◌, take_make, take_turn, take_maybe, take_at_most, take_many, take_onto, take_chain, complete, take_where, take_before, take_only, take_within, take_inside, take_once, take_levels, take_at_most_elements, take_elements, take_items_at, all_items, take_items}
use Rattle.readings.specs.Values.{Maybe}
use Rattle.dart_tree.specs.declared.places.Place.{Place}
use Rattle.dart_tokens.specs.declared.grouped_token.GroupedToken.{GroupedToken as Token}
use Rattle.grammar.specs.Tokens.{width, past, place_over}
use Rattle.node_counts.specs.Rising.{HoldGroups}

-- how many nodes the tokens pay for
abbrev pub worth : List Token → ℕ
worth [] = 0
worth (t ∷ ts) = 16 + worth ts

-- no part of these tokens costs more than it is worth, and groups lie in what they are passed by
pub record Sound (c : Place → ℕ) (ts : List Token) : Type 0 where
  pub costs : (skipped taken : ℕ) → c (place_over (take taken (drop skipped ts))) ≤ worth (take taken (drop skipped ts))
  pub held : HoldGroups ts

pub sound_behind : (c : Place → ℕ) (t : Token) (ts : List Token) → Sound c (t ∷ ts) → Sound c ts
sound_behind c t ts s = record { costs = λ m k. s.costs (suc m) k; held = s.held.1 }

pub sound_drop : (c : Place → ℕ) (n : ℕ) (ts : List Token) → Sound c ts → Sound c (drop n ts)
sound_drop c zero ts s = s
sound_drop c (suc n) [] s = s
sound_drop c (suc n) (t ∷ ts) s = sound_drop c n ts (sound_behind c t ts s)

take_none : (k : ℕ) → let none : List Token = [] in take k none ≡ none
take_none zero = refl
take_none (suc k) = refl

drop_none : (k : ℕ) → let none : List Token = [] in drop k none ≡ none
drop_none zero = refl
drop_none (suc k) = refl

-- a part of the first n tokens is a part of all
pub part_of_first : (n m k : ℕ) (ts : List Token) → (j : ℕ) × (take k (drop m (take n ts)) ≡ take j (drop m ts))
part_of_first zero m k ts = (0, rw (drop_none m, take_none k) refl)
part_of_first (suc n) m k [] = (k, refl)
part_of_first (suc n) zero zero (t ∷ ts) = (0, refl)
part_of_first (suc n) zero (suc k) (t ∷ ts) = let p = part_of_first n zero k ts in (suc p.0, ap (λ (us : List Token). t ∷ us) p.1)
part_of_first (suc n) (suc m) k (t ∷ ts) = part_of_first n m k ts

held_take : (n : ℕ) (ts : List Token) → HoldGroups ts → HoldGroups (take n ts)
held_take zero ts h = tt
held_take (suc n) [] h = tt
held_take (suc n) (t ∷ ts) h = (h.0, held_take n ts h.1)

pub sound_take : (c : Place → ℕ) (n : ℕ) (ts : List Token) → Sound c ts → Sound c (take n ts)
sound_take c n ts s = record {
  costs = λ m k. let p = part_of_first n m k ts in subst (λ (us : List Token). c (place_over us) ≤ worth us) (sym p.1) (s.costs m p.0);
  held = held_take n ts s.held;
}

pub worth_drop : (n : ℕ) (ts : List Token) → worth (drop n ts) ≤ worth ts
worth_drop zero ts = omega arith
worth_drop (suc n) [] = omega arith
worth_drop (suc n) (t ∷ ts) = omega (arith, worth_drop n ts)

-- what stands in a group and what stands behind it
pub worth_apart : (n m : ℕ) (ts : List Token) → n ≤ m → worth (take n ts) + worth (drop m ts) ≤ worth ts
worth_apart zero m ts h = omega (arith, worth_drop m ts)
worth_apart (suc n) zero ts h = absurd (omega (arith, h))
worth_apart (suc n) (suc m) [] h = omega arith
worth_apart (suc n) (suc m) (t ∷ ts) h = omega (arith, worth_apart n m ts (omega (arith, h)))

-- Weights of values.

abbrev pub free : {A : Type 0} → A → ℕ
free a = 0

abbrev pub both : {A B : Type 0} → (A → ℕ) → (B → ℕ) → A × B → ℕ
both u v x = u x.0 + v x.1

abbrev pub if_there : {A : Type 0} → (A → ℕ) → Option A → ℕ
if_there u None = 0
if_there u (Some a) = u a

abbrev pub total : {A : Type 0} → (A → ℕ) → List A → ℕ
total u [] = 0
total u (x ∷ xs) = u x + total u xs

-- the value and k more are paid for by the tokens that were read, of which n was the worth, and what is left is sound
abbrev pub Paid : {A : Type 0} → (Place → ℕ) → (A → ℕ) → ℕ → ℕ → Reading Token A → Type 0
Paid c w k n x = Sound c x.1 × (w x.0 + k + worth x.1 ≤ n)

-- what a descent finds is paid for, with k to spare
pub record Pays {A : Type 0} (c : Place → ℕ) (w : A → ℕ) (k : ℕ) (g : Descent Token A) : Type 0 where
  pub each : (ts : List Token) → Sound c ts → Maybe (Paid c w k (worth ts)) (g ts)

bound : {A B : Type 0} (P : Reading Token A → Type 0) (Q : Reading Token B → Type 0) (f : Reading Token A → Option (Reading Token B)) (o : Option (Reading Token A)) → Maybe P o → ((x : Reading Token A) → P x → Maybe Q (f x)) → Maybe Q (bind o f)
bound P Q f None h k = tt
bound P Q f (Some x) h k = k x h

if_found : {A : Type 0} (P : A → Type 0) (b : Bool) (o p : Option A) → Maybe P o → Maybe P p → Maybe P (if b then o else p)
if_found P true o p h k = h
if_found P false o p h k = k

pub pays_token : (c : Place → ℕ) (f : Token → Bool) → Pays c free 16 (take_token f)
pays_token c f = record { each = pay } where
  pay : (ts : List Token) → Sound c ts → Maybe (Paid c free 16 (worth ts)) (take_token f ts)
  pay [] s = tt
  pay (t ∷ ts) s = if_found (Paid c free 16 (16 + worth ts)) (f t) (Some (t, ts)) None (sound_behind c t ts s, omega arith) tt

pub pays_given : {A : Type 0} (c : Place → ℕ) (w : A → ℕ) (k : ℕ) (a : A) → w a + k ≤ 0 → Pays c w k (take_given a)
pays_given c w k a h = record { each = λ ts s. (s, omega (arith, h)) }

pub pays_none : {A : Type 0} (c : Place → ℕ) (w : A → ℕ) (k : ℕ) → Pays c w k (λ ts. None)
pays_none c w k = record { each = λ ts s. tt }

pub pays_seq : {A B : Type 0} {c : Place → ℕ} {u : A → ℕ} {v : B → ℕ} {j k : ℕ} {g : Descent Token A} {h : Descent Token B} → Pays c u j g → Pays c v k h → Pays c (both u v) (j + k) (g ▸ h)
pays_seq {c = c} {u = u} {v = v} {j = j} {k = k} {g = g} {h = h} a b = record {
  each = λ ts s.
      bound (Paid c u j (worth ts)) (Paid c (both u v) (j + k) (worth ts)) (λ x. bind (h x.1) (λ y. Some (behind x.0 y))) (g ts) (a.each ts s)
      (λ x p. bound (Paid c v k (worth x.1)) (Paid c (both u v) (j + k) (worth ts)) (λ y. Some (behind x.0 y)) (h x.1) (b.each x.1 p.0) (λ y q. (q.0, omega (arith, p.1, q.1))));
}

pub pays_make : {A B : Type 0} {c : Place → ℕ} {u : A → ℕ} {j : ℕ} {g : Descent Token A} (w : B → ℕ) (k : ℕ) (of : List Token → A → B) → Pays c u j g → ((read : List Token) (x : A) → w (of read x) + k ≤ u x + j) → Pays c w k (take_make of g)
pays_make {c = c} {u = u} {j = j} {g = g} w k of a h = record {
  each = λ ts s. bound (Paid c u j (worth ts)) (Paid c w k (worth ts)) (λ x. Some (made of ts x)) (g ts) (a.each ts s) (λ x p. (p.0, omega (arith, p.1, h (tokens_read ts x.1) x.0)));
}

pub pays_turn : {A B : Type 0} {c : Place → ℕ} {u : A → ℕ} {j : ℕ} {g : Descent Token A} (w : B → ℕ) (k : ℕ) (of : A → B) → Pays c u j g → ((x : A) → w (of x) + k ≤ u x + j) → Pays c w k (take_turn of g)
pays_turn w k of a h = pays_make w k (λ read x. of x) a (λ read x. h x)

or_found : {A : Type 0} (P : Reading Token A → Type 0) (o p : Option (Reading Token A)) → Maybe P o → Maybe P p → Maybe P (or_else o p)
or_found P None p h k = k
or_found P (Some x) p h k = h

pub pays_or : {A : Type 0} {c : Place → ℕ} {w : A → ℕ} {k : ℕ} {g h : Descent Token A} → Pays c w k g → Pays c w k h → Pays c w k (g ⊘ h)
pays_or {c = c} {w = w} {k = k} {g = g} {h = h} a b = record { each = λ ts s. or_found (Paid c w k (worth ts)) (g ts) (h ts) (a.each ts s) (b.each ts s) }

pub pays_where : {A : Type 0} {c : Place → ℕ} {w : A → ℕ} {k : ℕ} {g h : Descent Token A} (t : Test Token) → Pays c w k g → Pays c w k h → Pays c w k (take_where t g h)
pays_where {c = c} {w = w} {k = k} {g = g} {h = h} t a b = record { each = λ ts s. if_found (Paid c w k (worth ts)) (t ts) (g ts) (h ts) (a.each ts s) (b.each ts s) }

found_less : {A : Type 0} (P Q : A → Type 0) (o : Option A) → ((x : A) → P x → Q x) → Maybe P o → Maybe Q o
found_less P Q None f h = tt
found_less P Q (Some x) f h = f x h

-- less is asked
pub pays_less : {A : Type 0} {c : Place → ℕ} {u : A → ℕ} {j : ℕ} {g : Descent Token A} (w : A → ℕ) (k : ℕ) → Pays c u j g → ((x : A) → w x + k ≤ u x + j) → Pays c w k g
pays_less {c = c} {u = u} {j = j} {g = g} w k a h = record { each = λ ts s. found_less (Paid c u j (worth ts)) (Paid c w k (worth ts)) (g ts) (λ x p. (p.0, omega (arith, p.1, h x.0))) (a.each ts s) }

pub pays_maybe : {A : Type 0} {c : Place → ℕ} {u : A → ℕ} {j : ℕ} {g : Descent Token A} → Pays c u j g → Pays c (if_there u) 0 (take_maybe g)
pays_maybe {c = c} {u = u} a = pays_or (pays_turn (if_there u) 0 (λ a. Some a) a (λ x. omega arith)) (pays_given c (if_there u) 0 None (omega arith))

pays_at_most : {A : Type 0} {c : Place → ℕ} {u : A → ℕ} {j : ℕ} {g : Descent Token A} (n : ℕ) → Pays c u j g → Pays c (total u) 0 (take_at_most n g)
pays_at_most {c = c} {u = u} zero a = pays_given c (total u) 0 [] (omega arith)
pays_at_most {c = c} {u = u} (suc n) a = pays_or (pays_turn (total u) 0 listed (pays_seq a (pays_at_most n a)) (λ x. omega arith)) (pays_given c (total u) 0 [] (omega arith))

pub pays_many : {A : Type 0} {c : Place → ℕ} {u : A → ℕ} {j : ℕ} {g : Descent Token A} → Pays c u j g → Pays c (total u) 0 (take_many g)
pays_many a = record { each = λ ts s. (pays_at_most (length ts) a).each ts s }

pays_onto : {A B : Type 0} {c : Place → ℕ} {v : B → ℕ} {k : ℕ} {h : Descent Token B} (w : A → ℕ) (start : List Token) (n : ℕ) (room : A → Bool) (join : List Token → A → B → A) → Pays c v k h →
    ((read : List Token) (left : A) (right : B) → w (join read left right) ≤ w left + (v right + k)) → (left : A) (ts : List Token) → Sound c ts → Maybe (Paid c w 0 (w left + worth ts)) (take_onto start n room join h left ts)
pays_onto w start zero room join b step left ts s = (s, omega arith)
pays_onto {A = A} {c = c} {v = v} {k = k} {h = h} w start (suc n) room join b step left ts s =
    let P : Reading Token A → Type 0 = Paid c w 0 (w left + worth ts) in
    if_found P (room left) (or_else (bind (h ts) (λ y. take_onto start n room join h (join (tokens_read start y.1) left y.0) y.1)) (Some (left, ts))) (Some (left, ts))
    (or_found P (bind (h ts) (λ y. take_onto start n room join h (join (tokens_read start y.1) left y.0) y.1)) (Some (left, ts))
    (bound (Paid c v k (worth ts)) P (λ y. take_onto start n room join h (join (tokens_read start y.1) left y.0) y.1) (h ts) (b.each ts s)
    (λ y q.
    found_less (Paid c w 0 (w (join (tokens_read start y.1) left y.0) + worth y.1)) P (take_onto start n room join h (join (tokens_read start y.1) left y.0) y.1)
    (λ z r. (r.0, omega (arith, r.1, q.1, step (tokens_read start y.1) left y.0))) (pays_onto w start n room join b step (join (tokens_read start y.1) left y.0) y.1 q.0)))
    (s, omega arith))
    (s, omega arith)

pub pays_chain : {A B : Type 0} {c : Place → ℕ} {w : A → ℕ} {v : B → ℕ} {j k : ℕ} {g : Descent Token A} {h : Descent Token B} (most : A → List Token → ℕ) (room : A → Bool) (join : List Token → A → B → A) → Pays c w j g → Pays c v k h →
    ((read : List Token) (left : A) (right : B) → w (join read left right) ≤ w left + (v right + k)) → Pays c w j (take_chain most room join g h)
pays_chain {c = c} {w = w} {j = j} {g = g} {h = h} most room join a b step = record {
  each = λ ts s.
      bound (Paid c w j (worth ts)) (Paid c w j (worth ts)) (λ x. take_onto ts (most x.0 x.1) room join h x.0 x.1) (g ts) (a.each ts s)
      (λ x p. found_less (Paid c w 0 (w x.0 + worth x.1)) (Paid c w j (worth ts)) (take_onto ts (most x.0 x.1) room join h x.0 x.1) (λ z r. (r.0, omega (arith, r.1, p.1))) (pays_onto w ts (most x.0 x.1) room join b step x.0 x.1 p.0));
}

pub pays_once : {A B : Type 0} {c : Place → ℕ} {w : A → ℕ} {v : B → ℕ} {j k : ℕ} {g : Descent Token A} {h : Descent Token B} (room : A → Bool) (join : List Token → A → B → A) → Pays c w j g → Pays c v k h →
    ((read : List Token) (left : A) (right : B) → w (join read left right) ≤ w left + (v right + k)) → Pays c w j (take_once room join g h)
pays_once {A = A} {c = c} {w = w} {v = v} {j = j} {k = k} {g = g} {h = h} room join a b step = record {
  each = λ ts s.
      bound (Paid c w j (worth ts)) (Paid c w j (worth ts)) (λ x. if room x.0 then bind (h x.1) (λ y. Some (join (tokens_read ts y.1) x.0 y.0, y.1)) else None) (g ts) (a.each ts s)
      (λ x p.
      if_found (Paid c w j (worth ts)) (room x.0) (bind (h x.1) (λ y. Some (join (tokens_read ts y.1) x.0 y.0, y.1))) None
      (bound (Paid c v k (worth x.1)) (Paid c w j (worth ts)) (λ y. Some (join (tokens_read ts y.1) x.0 y.0, y.1)) (h x.1) (b.each x.1 p.0) (λ y q. (q.0, omega (arith, q.1, p.1, step (tokens_read ts y.1) x.0 y.0)))) tt);
}

pub pays_levels : {A B R : Type 0} {c : Place → ℕ} {w : A → ℕ} {v : B → ℕ} {j k : ℕ} {first : Descent Token A} {right : R → List R → Descent Token B} (most : R → A → List Token → ℕ) (room : A → Bool) (join : List Token → A → B → A) → ((r : R) (above : List R) → Pays c v k (right r above)) →
    ((read : List Token) (left : A) (side : B) → w (join read left side) ≤ w left + (v side + k)) → Pays c w j first → (rs : List R) → Pays c w j (take_levels most room join right first rs)
pays_levels most room join each step a [] = a
pays_levels most room join each step a (r ∷ rs) = pays_chain (most r) room join (pays_levels most room join each step a rs) (each r rs) step

-- Groups.

whole_found : {A : Type 0} (c : Place → ℕ) (w : A → ℕ) (k n : ℕ) (a : A) (left : List Token) → Sound c left × (w a + k + worth left ≤ n) → Maybe (λ a. w a + k ≤ n) (whole_or a left None)
whole_found c w k n a [] h = omega (arith, h.1)
whole_found c w k n a (t ∷ ts) h = tt

complete_found : {A : Type 0} (c : Place → ℕ) (w : A → ℕ) (k n : ℕ) (o : Option (Reading Token A)) → Maybe (Paid c w k n) o → Maybe (λ a. w a + k ≤ n) (complete o)
complete_found c w k n None h = tt
complete_found c w k n (Some x) h = whole_found c w k n x.0 x.1 h

option_found : {A B : Type 0} (P : A → Type 0) (Q : B → Type 0) (f : A → B) (o : Option A) → ((x : A) → P x → Q (f x)) → Maybe P o → Maybe Q (option_map f o)
option_found P Q f None h k = tt
option_found P Q f (Some x) h k = h x k

pub pays_within : {A : Type 0} {c : Place → ℕ} {w : A → ℕ} {k : ℕ} {g : Descent Token A} (size : List Token → ℕ) → Pays c w k g → Pays c w k (take_within size g)
pays_within {A = A} {c = c} {w = w} {k = k} {g = g} size a = record {
  each = λ ts s.
      option_found (λ a. w a + k ≤ worth (take (size ts) ts)) (Paid c w k (worth ts)) (λ a. (a, drop (size ts) ts)) (complete (g (take (size ts) ts)))
      (λ x h. (sound_drop c (size ts) ts s, omega (arith, h, worth_apart (size ts) (size ts) ts (omega arith))))
      (complete_found c w k (worth (take (size ts) ts)) (g (take (size ts) ts)) (a.each (take (size ts) ts) (sound_take c (size ts) ts s)));
}

inside_found : {A : Type 0} (c : Place → ℕ) (w : A → ℕ) (k : ℕ) (g : Descent Token A) (opens : Token → Bool) → Pays c w k g → (ts : List Token) → Sound c ts → Maybe (Paid c (λ (z : Token × A). w z.1) (16 + k) (worth ts)) (take_inside opens width past g ts)
inside_found c w k g opens a [] s = tt
inside_found {A = A} c w k g opens a (t ∷ ts) s =
    let behind_it = sound_behind c t ts s in
    if_found (Paid c (λ (z : Token × A). w z.1) (16 + k) (16 + worth ts)) (opens t) (option_map (λ a. ((t, a), drop (past t) ts)) (complete (g (take (width t) ts)))) None
    (option_found (λ a. w a + k ≤ worth (take (width t) ts)) (Paid c (λ (z : Token × A). w z.1) (16 + k) (16 + worth ts)) (λ a. ((t, a), drop (past t) ts)) (complete (g (take (width t) ts)))
    (λ x h. (sound_drop c (past t) ts behind_it, omega (arith, h, worth_apart (width t) (past t) ts s.held.0)))
    (complete_found c w k (worth (take (width t) ts)) (g (take (width t) ts)) (a.each (take (width t) ts) (sound_take c (width t) ts behind_it)))) tt

pub pays_inside : {A : Type 0} {c : Place → ℕ} {w : A → ℕ} {k : ℕ} {g : Descent Token A} (opens : Token → Bool) → Pays c w k g → Pays c (λ (z : Token × A). w z.1) (16 + k) (take_inside opens width past g)
pays_inside {c = c} {w = w} {k = k} {g = g} opens a = record { each = inside_found c w k g opens a }

pub pays_before : {A : Type 0} {c : Place → ℕ} {w : A → ℕ} {k : ℕ} {g : Descent Token A} (t : Test Token) → Pays c w k g → Pays c w k (take_before t g)
pays_before {c = c} {w = w} {k = k} {g = g} t a = record {
  each = λ ts s. bound (Paid c w k (worth ts)) (Paid c w k (worth ts)) (λ x. if t x.1 then Some x else None) (g ts) (a.each ts s) (λ x p. if_found (Paid c w k (worth ts)) (t x.1) (Some x) None p tt);
}

pub pays_only : {A : Type 0} {c : Place → ℕ} {w : A → ℕ} {k : ℕ} {g : Descent Token A} (t : A → Bool) → Pays c w k g → Pays c w k (take_only t g)
pays_only {c = c} {w = w} {k = k} {g = g} t a = record {
  each = λ ts s. bound (Paid c w k (worth ts)) (Paid c w k (worth ts)) (λ x. if t x.0 then Some x else None) (g ts) (a.each ts s) (λ x p. if_found (Paid c w k (worth ts)) (t x.0) (Some x) None p tt);
}

-- Lists.

first_total : {A B : Type 0} (u : A → ℕ) (v : B → ℕ) (a : A) (o : Option (B × List A)) → total u (first_behind (a, o)) ≤ u a + if_there (both v (total u)) o
first_total u v a None = omega arith
first_total u v a (Some y) = omega arith

pays_at_most_elements : {A B : Type 0} {c : Place → ℕ} {u : A → ℕ} {v : B → ℕ} {j k : ℕ} {g : Descent Token A} {comma : Descent Token B} (n : ℕ) → Pays c u j g → Pays c v k comma → Pays c (total u) 0 (take_at_most_elements n g comma)
pays_at_most_elements {c = c} {u = u} zero a b = pays_given c (total u) 0 [] (omega arith)
pays_at_most_elements {c = c} {u = u} {v = v} (suc n) a b =
    pays_or (pays_turn (total u) 0 first_behind (pays_seq a (pays_maybe (pays_seq b (pays_at_most_elements n a b)))) (λ x. omega (arith, first_total u v x.0 x.1)))
    (pays_given c (total u) 0 [] (omega arith))

pub pays_elements : {A B : Type 0} {c : Place → ℕ} {u : A → ℕ} {v : B → ℕ} {j k : ℕ} {g : Descent Token A} {comma : Descent Token B} → Pays c u j g → Pays c v k comma → Pays c (total u) 0 (take_elements g comma)
pays_elements a b = record { each = λ ts s. (pays_at_most_elements (length ts) a b).each ts s }

-- Items: an error costs no more than its tokens are worth.

item_total : {A : Type 0} (c : Place → ℕ) (u : A → ℕ) (j : ℕ) (more : List Token → List A) (segment : List Token → ℕ) (error : List Token → A) (ts : List Token) → Sound c ts → (u (error (take (suc (segment ts)) ts)) ≤ worth (take (suc (segment ts)) ts)) →
    ((us : List Token) → Sound c us → total u (more us) ≤ worth us) → (o : Option (Reading Token A)) → Maybe (Paid c u j (worth ts)) o → total u (item_or_error more segment error ts o) ≤ worth ts
item_total c u j more segment error ts s bad each None h =
    omega (arith, bad, each (drop (suc (segment ts)) ts) (sound_drop c (suc (segment ts)) ts s), worth_apart (suc (segment ts)) (suc (segment ts)) ts (omega arith))
item_total c u j more segment error ts s bad each (Some x) h = omega (arith, h.1, each x.1 h.0)

items_total : {A : Type 0} (c : Place → ℕ) (u : A → ℕ) (j n : ℕ) (g : Descent Token A) (segment : List Token → ℕ) (error : List Token → A) → Pays c u j g → ((t : Token) (ts : List Token) (n : ℕ) → Sound c (t ∷ ts) → u (error (take (suc n) (t ∷ ts))) ≤ worth (take (suc n) (t ∷ ts))) → (ts : List Token) → Sound c ts →
    total u (take_items_at n g segment error ts) ≤ worth ts
items_total c u j zero g segment error a bad ts s = omega arith
items_total c u j (suc n) g segment error a bad [] s = omega arith
items_total c u j (suc n) g segment error a bad (t ∷ ts) s =
    item_total c u j (take_items_at n g segment error) segment error (t ∷ ts) s (bad t ts (segment (t ∷ ts)) s) (λ us r. items_total c u j n g segment error a bad us r) (g (t ∷ ts)) (a.each (t ∷ ts) s)

pub all_items_total : {A : Type 0} {c : Place → ℕ} {u : A → ℕ} {j : ℕ} {g : Descent Token A} (segment : List Token → ℕ) (error : List Token → A) → Pays c u j g → ((t : Token) (ts : List Token) (n : ℕ) → Sound c (t ∷ ts) → u (error (take (suc n) (t ∷ ts))) ≤ worth (take (suc n) (t ∷ ts))) → (ts : List Token) → Sound c ts →
    total u (all_items g segment error ts) ≤ worth ts
all_items_total {c = c} {u = u} {j = j} {g = g} segment error a bad ts s = items_total c u j (length ts) g segment error a bad ts s

pub pays_items : {A : Type 0} {c : Place → ℕ} {u : A → ℕ} {j : ℕ} {g : Descent Token A} (segment : List Token → ℕ) (error : List Token → A) → Pays c u j g → ((t : Token) (ts : List Token) (n : ℕ) → Sound c (t ∷ ts) → u (error (take (suc n) (t ∷ ts))) ≤ worth (take (suc n) (t ∷ ts))) →
    Pays c (total u) 0 (take_items g segment error)
pays_items {c = c} segment error a bad = record { each = λ ts s. (nothing_left c ts s, omega (arith, all_items_total segment error a bad ts s)) } where
  nothing_left : (c : Place → ℕ) (ts : List Token) → Sound c ts → Sound c []
  nothing_left c [] s = s
  nothing_left c (t ∷ ts) s = nothing_left c ts (sound_behind c t ts s)
