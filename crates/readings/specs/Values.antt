-- What holds of every value that a rule reads.
use Rattle.std.specs.Prelude.{◌≡◌, ℕ, zero, suc, Bool, true, false, List, [], ◌∷◌, Option, Some, None, option_map, length, map, take, drop, nat_lt, if◌then◌else◌, refl}
use Rattle.std.specs.List.{flat_map}
use Rattle.readings.specs.Readings.{Reading, Rule, Test, optional, behind, ◌▹◌, ◌∣◌, tokens_read, made, make, turn, maybe, listed, at_most, many, onto, chain, once, better, longest, whole_or, whole, longest_of, where_next, or_others, prefer, exactly, passing, before, only, within, inside, levels, first_behind, at_most_elements, elements, item_or_error, items_at, items}
use Rattle.readings.specs.Leading.{Each}
use Rattle.readings.specs.Lists.{each_append, each_implies, each_map, each_flat}
use Rattle.readings.specs.Combinators.{followed_by}

-- each value that the rule reads is so
pub record Gives {T A : Type 0} (P : A → Type 0) (p : Rule T A) : Type 0 where
  pub each : (ts : List T) → Each (λ (x : Reading T A). P x.0) (p ts)

-- a value that may be there is so
abbrev pub Maybe : {A : Type 0} → (A → Type 0) → Option A → Type 0
Maybe P None = Unit {0}
Maybe P (Some a) = P a

each_any : {A : Type 0} (xs : List A) → Each (λ x. Unit {0}) xs
each_any [] = tt
each_any (x ∷ xs) = (tt, each_any xs)

-- nothing is asked
pub gives_any : {T A : Type 0} (p : Rule T A) → Gives (λ a. Unit {0}) p
gives_any p = record { each = λ ts. each_any (p ts) }

pub gives_none : {T A : Type 0} (P : A → Type 0) → Gives {T = T} P (λ ts. [])
gives_none P = record { each = λ ts. tt }

pub gives_seq : {T A B : Type 0} {P : A → Type 0} {Q : B → Type 0} {p : Rule T A} {q : Rule T B} → Gives P p → Gives Q q → Gives (λ x. P x.0 × Q x.1) (p ▹ q)
gives_seq {T = T} {A = A} {B = B} {P = P} {Q = Q} {p = p} {q = q} a b = record {
  each = λ ts. each_flat (λ (x : Reading T A). P x.0) (λ (x : Reading T (A × B)). P x.0.0 × Q x.0.1) (followed_by q)
      (λ x h. each_map (λ (y : Reading T (A × B)). P y.0.0 × Q y.0.1) (behind x.0) (q x.1) (each_implies (λ (y : Reading T B). Q y.0) (λ (y : Reading T B). P x.0 × Q y.0) (λ y k. (h, k)) (q x.1) (b.each x.1))) (p ts) (a.each ts);
}

pub gives_or : {T A : Type 0} {P : A → Type 0} {p q : Rule T A} → Gives P p → Gives P q → Gives P (p ∣ q)
gives_or {T = T} {A = A} {P = P} {p = p} {q = q} a b = record { each = λ ts. each_append (λ (x : Reading T A). P x.0) (p ts) (q ts) (a.each ts) (b.each ts) }

pub gives_make : {T A B : Type 0} {P : A → Type 0} {R : B → Type 0} {p : Rule T A} (of : List T → A → B) → ((read : List T) (a : A) → P a → R (of read a)) → Gives P p → Gives R (make of p)
gives_make {T = T} {A = A} {B = B} {P = P} {R = R} {p = p} of h a = record {
  each = λ ts. each_map (λ (y : Reading T B). R y.0) (made of ts) (p ts) (each_implies (λ (x : Reading T A). P x.0) (λ (x : Reading T A). R (of (tokens_read ts x.1) x.0)) (λ x k. h (tokens_read ts x.1) x.0 k) (p ts) (a.each ts));
}

pub gives_turn : {T A B : Type 0} {P : A → Type 0} {R : B → Type 0} {p : Rule T A} (of : A → B) → ((a : A) → P a → R (of a)) → Gives P p → Gives R (turn of p)
gives_turn of h a = gives_make (λ read x. of x) (λ read x k. h x k) a

pub gives_maybe : {T A : Type 0} {P : A → Type 0} {p : Rule T A} → Gives P p → Gives (Maybe P) (maybe p)
gives_maybe {P = P} a = gives_or (gives_turn {R = Maybe P} (λ a. Some a) (λ x k. k) a) (record { each = λ ts. (tt, tt) })

gives_at_most : {T A : Type 0} {P : A → Type 0} {p : Rule T A} (n : ℕ) → Gives P p → Gives (Each P) (at_most n p)
gives_at_most zero a = record { each = λ ts. (tt, tt) }
gives_at_most {P = P} (suc n) a = gives_or (gives_turn {R = Each P} listed (λ x k. (k.0, k.1)) (gives_seq a (gives_at_most n a))) (record { each = λ ts. (tt, tt) })

pub gives_many : {T A : Type 0} {P : A → Type 0} {p : Rule T A} → Gives P p → Gives (Each P) (many p)
gives_many a = record { each = λ ts. (gives_at_most (length ts) a).each ts }

-- Repeats.

if_each : {A : Type 0} (P : A → Type 0) (b c : Bool) (xs : List A) → b ≡ c → (c ≡ true → Each P xs) → Each P (if c then xs else [])
if_each P b true xs e h = h refl
if_each P b false xs e h = tt

gives_onto : {T A B : Type 0} {P : A → Type 0} {Q : B → Type 0} {q : Rule T B} (start : List T) (n : ℕ) (room : A → Bool) (join : List T → A → B → A) → Gives Q q →
    ((read : List T) (left : A) (right : B) → room left ≡ true → P left → Q right → P (join read left right)) → (left : A) → P left → Gives P (onto start n room join q left)
gives_onto start zero room join b step left h = record { each = λ ts. (h, tt) }
gives_onto {T = T} {A = A} {B = B} {P = P} {Q = Q} {q = q} start (suc n) room join b step left h = record {
  each = λ ts.
      each_append (λ (x : Reading T A). P x.0) (if room left then flat_map (λ y. onto start n room join q (join (tokens_read start y.1) left y.0) y.1) (q ts) else []) ((left, ts) ∷ [])
      (if_each (λ (x : Reading T A). P x.0) (room left) (room left) (flat_map (λ y. onto start n room join q (join (tokens_read start y.1) left y.0) y.1) (q ts)) refl
      (λ e. each_flat (λ (y : Reading T B). Q y.0) (λ (x : Reading T A). P x.0) (λ y. onto start n room join q (join (tokens_read start y.1) left y.0) y.1)
      (λ y k. (gives_onto start n room join b step (join (tokens_read start y.1) left y.0) (step (tokens_read start y.1) left y.0 e h k)).each y.1) (q ts) (b.each ts))) (h, tt);
}

pub gives_chain : {T A B : Type 0} {P : A → Type 0} {Q : B → Type 0} {p : Rule T A} {q : Rule T B} (most : A → List T → ℕ) (room : A → Bool) (join : List T → A → B → A) → Gives P p → Gives Q q →
    ((read : List T) (left : A) (right : B) → room left ≡ true → P left → Q right → P (join read left right)) → Gives P (chain most room join p q)
gives_chain {T = T} {A = A} {P = P} {p = p} {q = q} most room join a b step = record {
  each = λ ts. each_flat (λ (x : Reading T A). P x.0) (λ (x : Reading T A). P x.0) (λ x. onto ts (most x.0 x.1) room join q x.0 x.1) (λ x h. (gives_onto ts (most x.0 x.1) room join b step x.0 h).each x.1) (p ts) (a.each ts);
}

pub gives_once : {T A B : Type 0} {P : A → Type 0} {Q : B → Type 0} {p : Rule T A} {q : Rule T B} (room : A → Bool) (join : List T → A → B → A) → Gives P p → Gives Q q →
    ((read : List T) (left : A) (right : B) → room left ≡ true → P left → Q right → P (join read left right)) → Gives P (once room join p q)
gives_once {T = T} {A = A} {B = B} {P = P} {Q = Q} {p = p} {q = q} room join a b step = record {
  each = λ ts. each_flat (λ (x : Reading T A). P x.0) (λ (x : Reading T A). P x.0) (λ x. if room x.0 then map (λ y. (join (tokens_read ts y.1) x.0 y.0, y.1)) (q x.1) else [])
      (λ x h. if_each (λ (x : Reading T A). P x.0) (room x.0) (room x.0) (map (λ y. (join (tokens_read ts y.1) x.0 y.0, y.1)) (q x.1)) refl
      (λ e. each_map (λ (x : Reading T A). P x.0) (λ y. (join (tokens_read ts y.1) x.0 y.0, y.1)) (q x.1) (each_implies (λ (y : Reading T B). Q y.0) (λ (y : Reading T B). P (join (tokens_read ts y.1) x.0 y.0)) (λ y k. step (tokens_read ts y.1) x.0 y.0 e h k) (q x.1) (b.each x.1)))) (p ts) (a.each ts);
}

-- The longest, and the whole.

better_has : {T A : Type 0} (P : A → Type 0) (x : Reading T A) (b : Bool) (y : Reading T A) → P x.0 → P y.0 → Each (λ (z : Reading T A). P z.0) (optional (if b then Some y else Some x))
better_has P x true y h k = (k, tt)
better_has P x false y h k = (h, tt)

longest_step : {T A : Type 0} (P : A → Type 0) (x : Reading T A) (o : Option (Reading T A)) → P x.0 → Each (λ (z : Reading T A). P z.0) (optional o) → Each (λ (z : Reading T A). P z.0) (optional (better x o))
longest_step P x None h k = (h, tt)
longest_step P x (Some y) h k = better_has P x (nat_lt (length y.1) (length x.1)) y h k.0

longest_has : {T A : Type 0} (P : A → Type 0) (xs : List (Reading T A)) → Each (λ (z : Reading T A). P z.0) xs → Each (λ (z : Reading T A). P z.0) (optional (longest xs))
longest_has P [] h = tt
longest_has P (x ∷ xs) h = longest_step P x (longest xs) h.0 (longest_has P xs h.1)

pub gives_longest : {T A : Type 0} {P : A → Type 0} {p : Rule T A} → Gives P p → Gives P (longest_of p)
gives_longest {P = P} {p = p} a = record { each = λ ts. longest_has P (p ts) (a.each ts) }

whole_step : {T A : Type 0} (P : A → Type 0) (a : A) (ts : List T) (o : Option A) → P a → Maybe P o → Maybe P (whole_or a ts o)
whole_step P a [] o h k = h
whole_step P a (t ∷ ts) o h k = k

whole_has : {T A : Type 0} (P : A → Type 0) (xs : List (Reading T A)) → Each (λ (z : Reading T A). P z.0) xs → Maybe P (whole xs)
whole_has P [] h = tt
whole_has P (x ∷ xs) h = whole_step P x.0 x.1 (whole xs) h.0 (whole_has P xs h.1)

option_has : {T A B : Type 0} (P : A → Type 0) (R : B → Type 0) (k : A → Reading T B) (o : Option A) → ((a : A) → P a → R (k a).0) → Maybe P o → Each (λ (z : Reading T B). R z.0) (optional (option_map k o))
option_has P R k None f h = tt
option_has P R k (Some a) f h = (f a h, tt)

if_some : {A : Type 0} (P : A → Type 0) (b : Bool) (xs : List A) → Each P xs → Each P (if b then xs else [])
if_some P true xs h = h
if_some P false xs h = tt

inside_has : {T A : Type 0} (P : A → Type 0) (opens : T → Bool) (width past : T → ℕ) (p : Rule T A) → Gives P p → (ts : List T) → Each (λ (z : Reading T (T × A)). P z.0.1) (inside opens width past p ts)
inside_has P opens width past p a [] = tt
inside_has {T = T} {A = A} P opens width past p a (t ∷ ts) =
    if_some (λ (z : Reading T (T × A)). P z.0.1) (opens t) (optional (option_map (λ a. ((t, a), drop (past t) ts)) (whole (p (take (width t) ts)))))
    (option_has {T = T} {B = T × A} P (λ z. P z.1) (λ a. ((t, a), drop (past t) ts)) (whole (p (take (width t) ts))) (λ x h. h) (whole_has P (p (take (width t) ts)) (a.each (take (width t) ts))))

pub gives_inside : {T A : Type 0} {P : A → Type 0} {p : Rule T A} (opens : T → Bool) (width past : T → ℕ) → Gives P p → Gives (λ z. P z.1) (inside opens width past p)
gives_inside {P = P} {p = p} opens width past a = record { each = inside_has P opens width past p a }

pub gives_within : {T A : Type 0} {P : A → Type 0} {p : Rule T A} (size : List T → ℕ) → Gives P p → Gives P (within size p)
gives_within {T = T} {P = P} {p = p} size a = record {
  each = λ ts. option_has {T = T} P P (λ a. (a, drop (size ts) ts)) (whole (p (take (size ts) ts))) (λ x h. h) (whole_has P (p (take (size ts) ts)) (a.each (take (size ts) ts)));
}

-- Choices by tests.

if_both : {A : Type 0} (P : A → Type 0) (b : Bool) (xs ys : List A) → Each P xs → Each P ys → Each P (if b then xs else ys)
if_both P true xs ys h k = h
if_both P false xs ys h k = k

pub gives_where : {T A : Type 0} {P : A → Type 0} {p q : Rule T A} (c : Test T) → Gives P p → Gives P q → Gives P (where_next c p q)
gives_where {T = T} {A = A} {P = P} {p = p} {q = q} c a b = record { each = λ ts. if_both (λ (x : Reading T A). P x.0) (c ts) (p ts) (q ts) (a.each ts) (b.each ts) }

others_has : {A : Type 0} (P : A → Type 0) (xs ys : List A) → Each P xs → Each P ys → Each P (or_others xs ys)
others_has P [] ys h k = k
others_has P (x ∷ xs) ys h k = h

pub gives_prefer : {T A : Type 0} {P : A → Type 0} {p q : Rule T A} → Gives P p → Gives P q → Gives P (prefer p q)
gives_prefer {T = T} {A = A} {P = P} {p = p} {q = q} a b = record { each = λ ts. others_has (λ (x : Reading T A). P x.0) (p ts) (q ts) (a.each ts) (b.each ts) }

pub gives_exactly : {T A : Type 0} {P : A → Type 0} {p : Rule T A} → Gives P p → Gives (Maybe P) (exactly p)
gives_exactly {P = P} a = gives_prefer (gives_turn {R = Maybe P} (λ a. Some a) (λ x k. k) a) (record { each = λ ts. (tt, tt) })

passing_if : {A : Type 0} (P : A → Type 0) (x : A) (b : Bool) (xs : List A) → P x → Each P xs → Each P (if b then x ∷ xs else xs)
passing_if P x true xs h k = (h, k)
passing_if P x false xs h k = k

passing_has : {A : Type 0} (P : A → Type 0) (c : A → Bool) (xs : List A) → Each P xs → Each P (passing c xs)
passing_has P c [] h = tt
passing_has P c (x ∷ xs) h = passing_if P x (c x) (passing c xs) h.0 (passing_has P c xs h.1)

pub gives_before : {T A : Type 0} {P : A → Type 0} {p : Rule T A} (c : Test T) → Gives P p → Gives P (before c p)
gives_before {T = T} {A = A} {P = P} {p = p} c a = record { each = λ ts. passing_has (λ (x : Reading T A). P x.0) (λ x. c x.1) (p ts) (a.each ts) }

pub gives_only : {T A : Type 0} {P : A → Type 0} {p : Rule T A} (c : A → Bool) → Gives P p → Gives P (only c p)
gives_only {T = T} {A = A} {P = P} {p = p} c a = record { each = λ ts. passing_has (λ (x : Reading T A). P x.0) (λ x. c x.0) (p ts) (a.each ts) }

-- Lists.

first_has : {A B : Type 0} (P : A → Type 0) (a : A) (o : Option (B × List A)) → P a → Maybe (λ (y : B × List A). Unit {0} × Each P y.1) o → Each P (first_behind (a, o))
first_has P a None h k = (h, tt)
first_has P a (Some y) h k = (h, k.1)

gives_at_most_elements : {T A B : Type 0} {P : A → Type 0} {p : Rule T A} (n : ℕ) (comma : Rule T B) → Gives P p → Gives (Each P) (at_most_elements n p comma)
gives_at_most_elements zero comma a = record { each = λ ts. (tt, tt) }
gives_at_most_elements {P = P} (suc n) comma a =
    gives_or (gives_turn {R = Each P} first_behind (λ x k. first_has P x.0 x.1 k.0 k.1) (gives_seq a (gives_maybe (gives_seq (gives_any comma) (gives_at_most_elements n comma a))))) (record { each = λ ts. (tt, tt) })

pub gives_elements : {T A B : Type 0} {P : A → Type 0} {p : Rule T A} (comma : Rule T B) → Gives P p → Gives (Each P) (elements p comma)
gives_elements comma a = record { each = λ ts. (gives_at_most_elements (length ts) comma a).each ts }

item_has : {T A : Type 0} (P : A → Type 0) (more : List T → List A) (segment : List T → ℕ) (error : List T → A) → ((us : List T) → P (error us)) → ((us : List T) → Each P (more us)) → (ts : List T) (o : Option (Reading T A)) →
    Each (λ (z : Reading T A). P z.0) (optional o) → Each P (item_or_error more segment error ts o)
item_has P more segment error bad each ts None h = (bad (take (suc (segment ts)) ts), each (drop (suc (segment ts)) ts))
item_has P more segment error bad each ts (Some x) h = (h.0, each x.1)

items_have : {T A : Type 0} (P : A → Type 0) (n : ℕ) (p : Rule T A) (segment : List T → ℕ) (error : List T → A) → ((us : List T) → P (error us)) → Gives P p → (ts : List T) → Each P (items_at n p segment error ts)
items_have P zero p segment error bad a ts = tt
items_have P (suc n) p segment error bad a [] = tt
items_have P (suc n) p segment error bad a (t ∷ ts) = item_has P (items_at n p segment error) segment error bad (items_have P n p segment error bad a) (t ∷ ts) (longest (p (t ∷ ts))) (longest_has P (p (t ∷ ts)) (a.each (t ∷ ts)))

-- items, and errors among them
pub all_items_are : {T A : Type 0} {P : A → Type 0} {p : Rule T A} (segment : List T → ℕ) (error : List T → A) → ((us : List T) → P (error us)) → Gives P p → (ts : List T) → Each P (items_at (length ts) p segment error ts)
all_items_are {P = P} {p = p} segment error bad a ts = items_have P (length ts) p segment error bad a ts

pub gives_items : {T A : Type 0} {P : A → Type 0} {p : Rule T A} (segment : List T → ℕ) (error : List T → A) → ((us : List T) → P (error us)) → Gives P p → Gives (Each P) (items p segment error)
gives_items segment error bad a = record { each = λ ts. (all_items_are segment error bad a ts, tt) }

pub gives_levels : {T A B R : Type 0} {P : A → Type 0} {Q : B → Type 0} {right : R → List R → Rule T B} {first : Rule T A} (most : R → A → List T → ℕ) (room : A → Bool) (join : List T → A → B → A) →
    ((r : R) (above : List R) → Gives Q (right r above)) → ((read : List T) (left : A) (side : B) → room left ≡ true → P left → Q side → P (join read left side)) → Gives P first → (rs : List R) → Gives P (levels most room join right first rs)
gives_levels most room join each step a [] = a
gives_levels most room join each step a (r ∷ rs) = gives_longest (gives_chain (most r) room join (gives_levels most room join each step a rs) (gives_longest (each r rs)) step)
