-- What is read exactly where it can be, and what is read only before some tokens.
use Rattle.std.specs.Prelude.{◌≡◌, ℕ, zero, suc, ◌<◌, Bool, true, false, List, [], ◌∷◌, Option, Some, None, length, take, drop, nat_lt, if◌then◌else◌, refl}
use Rattle.std.proofs.Common.{sym, ◌∙◌, ap, subst, inl, arith}
use Rattle.readings.specs.Readings.{Reading, Rule, Test, either, nothing, optional, turn, or_others, prefer, exactly, passing, before, only, items_at, items, within}
use Rattle.readings.specs.Descent.{Descent, bind, or_else, ◌⊘◌, take_turn, take_maybe, take_before, take_only, take_items, take_within}
use Rattle.readings.specs.Leading.{Each, Matches, Fewer, AtMost, Parses, Sole}
use Rattle.readings.specs.Lists.{or_false_left, or_false_right, leads_within, matches_within, within_left, within_right}
use Rattle.readings.specs.Combinators.{parses_turn, keeps_shrinks}
use Rattle.readings.specs.Longest.{some_above}
use Rattle.readings.specs.Falls.{Falls}
use Rattle.readings.specs.Groups.{dropped}
use Rattle.readings.specs.Items.{same_items}
use Rattle.readings.specs.Repetition.{Offers, found_or}

-- One rule wherever it reads anything, another elsewhere.

prefer_at : {T A : Type 0} (s u : Test T) (all rest : List (Reading T A)) (o c : Option (Reading T A)) → Matches s all o → Matches u rest c → Matches (either s u) (or_others all rest) (or_else o c)
prefer_at {T = T} {A = A} s u all rest None c m n =
    subst (λ (xs : List (Reading T A)). Matches (either s u) (or_others xs rest) c) (sym m) (matches_within u (either s u) (within_right s u) rest c n)
prefer_at s u [] rest (Some b) c m n = elim m [ ]
prefer_at s u (x ∷ xs) rest (Some b) c m n = leads_within s (either s u) (within_left s u) (x ∷ xs) b m

others_none : {A : Type 0} (xs ys : List A) → xs ≡ [] → ys ≡ [] → or_others xs ys ≡ []
others_none {A = A} xs ys e d = ap (λ (v : List A). or_others v ys) e ∙ d

others_each : {A : Type 0} (P : A → Type 0) (xs ys : List A) → Each P xs → Each P ys → Each P (or_others xs ys)
others_each P [] ys a b = b
others_each P (x ∷ xs) ys a b = a

pub parses_prefer : {T A : Type 0} {s f u v : Test T} {p q : Rule T A} {g h : Descent T A} → Parses s f p g → Parses u v q h → Parses (either s u) (either f v) (prefer p q) (g ⊘ h)
parses_prefer {A = A} {s = s} {f = f} {u = u} {v = v} {p = p} {q = q} {g = g} {h = h} a b = record {
  leads = λ ts. prefer_at s u (p ts) (q ts) (g ts) (h ts) (a.leads ts) (b.leads ts);
  starts = λ ts e. others_none (p ts) (q ts) (a.starts ts (or_false_left (f ts) (v ts) e)) (b.starts ts (or_false_right (f ts) (v ts) e));
  shrinks = λ ts. others_each (Fewer {A = A} (length ts)) (p ts) (q ts) (a.shrinks ts) (b.shrinks ts);
}

-- What is left out exactly where it can't be read.

exact_at : {T A : Type 0} (s : Test T) (all : List (Reading T A)) (x : Reading T A) (o : Option (Reading T A)) → Matches s all o → Matches s (or_others all (x ∷ [])) (or_else o (Some x))
exact_at {T = T} {A = A} s all x None m = subst (λ (xs : List (Reading T A)). Matches s (or_others xs (x ∷ [])) (Some x)) (sym m) (inl (refl, tt))
exact_at s [] x (Some b) m = elim m [ ]
exact_at s (y ∷ ys) x (Some b) m = m

pub offers_exactly : {T A : Type 0} {s f : Test T} {p : Rule T A} {g : Descent T A} → Parses s f p g → Offers s f None (exactly p) (take_maybe g)
offers_exactly {T = T} {A = A} {s = s} {f = f} {p = p} {g = g} a =
    let b : Parses s f (turn (λ a. Some a) p) (take_turn (λ a. Some a) g) = parses_turn (λ a. Some a) a in
    record {
      leads = λ ts. exact_at s (turn (λ a. Some a) p ts) (None, ts) (take_turn (λ a. Some a) g ts) (b.leads ts);
      found = λ ts. found_or (take_turn (λ a. Some a) g ts) (None, ts);
      idle = λ ts e. ap (λ (xs : List (Reading T (Option A))). or_others xs ((None, ts) ∷ [])) (b.starts ts e);
      keeps = λ ts. others_each (AtMost {A = Option A} (length ts)) (turn (λ a. Some a) p ts) ((None, ts) ∷ []) (keeps_shrinks (turn (λ a. Some a) p) b.shrinks ts) (omega arith, tt);
    }

-- The readings that pass a test, where there is no more than one.

passing_at : {A : Type 0} (c : A → Bool) (x : A) (b : Bool) → (if b then x ∷ [] else []) ≡ optional (if b then Some x else None)
passing_at c x true = refl
passing_at c x false = refl

passing_one : {T A : Type 0} (c : Reading T A → Bool) (o : Option (Reading T A)) → passing c (optional o) ≡ optional (bind o (λ x. if c x then Some x else None))
passing_one c None = refl
passing_one c (Some x) = passing_at c x (c x)

passing_step : {A : Type 0} (P : A → Type 0) (x : A) (b : Bool) (xs : List A) → P x → Each P xs → Each P (if b then x ∷ xs else xs)
passing_step P x true xs h a = (h, a)
passing_step P x false xs h a = a

passing_each : {A : Type 0} (P : A → Type 0) (c : A → Bool) (xs : List A) → Each P xs → Each P (passing c xs)
passing_each P c [] a = tt
passing_each P c (x ∷ xs) a = passing_step P x (c x) (passing c xs) a.0 (passing_each P c xs a.1)

pub sole_passing : {T A : Type 0} {f : Test T} {p : Rule T A} {g : Descent T A} (c : Reading T A → Bool) → Sole f p g → Sole f (λ ts. passing c (p ts)) (λ ts. bind (g ts) (λ x. if c x then Some x else None))
sole_passing {T = T} {A = A} {p = p} {g = g} c a = record {
  alone = λ ts. ap (passing c) (a.alone ts) ∙ passing_one c (g ts);
  starts = λ ts e. ap (passing c) (a.starts ts e);
  shrinks = λ ts. passing_each (Fewer {A = A} (length ts)) c (p ts) (a.shrinks ts);
}

pub sole_before : {T A : Type 0} {f : Test T} {p : Rule T A} {g : Descent T A} (c : Test T) → Sole f p g → Sole f (before c p) (take_before c g)
sole_before c a = sole_passing (λ x. c x.1) a

pub sole_only : {T A : Type 0} {f : Test T} {p : Rule T A} {g : Descent T A} (c : A → Bool) → Sole f p g → Sole f (only c p) (take_only c g)
sole_only c a = sole_passing (λ x. c x.0) a

-- What a function of the tokens reads.

function_each : {T A : Type 0} (n : ℕ) (o : Option (Reading T A)) → ((x : Reading T A) → o ≡ Some x → length x.1 < n) → Each (Fewer {A = A} n) (optional o)
function_each n None h = tt
function_each n (Some x) h = (h x refl, tt)

pub sole_function : {T A : Type 0} (f : Test T) (g : Descent T A) → ((ts : List T) → f ts ≡ false → g ts ≡ None) → Falls g → Sole f (λ ts. optional (g ts)) g
sole_function f g st falls = record {
  alone = λ ts. refl;
  starts = λ ts e. ap optional (st ts e);
  shrinks = λ ts. function_each (length ts) (g ts) (falls ts);
}

-- So many tokens, as a list of items.

-- some tokens are read
abbrev pub reaches : {T : Type 0} → (List T → ℕ) → Test T
reaches size ts = nat_lt 0 (size ts)

none_within : (n : ℕ) → nat_lt 0 n ≡ false → n ≡ 0
none_within zero e = refl
none_within (suc n) e = absurd (let d : nat_lt 0 (suc n) ≡ true = some_above n in cc)

idle_at : {T A : Type 0} (n : ℕ) (ts : List T) (read : List T → List A) → read [] ≡ [] → n ≡ 0 →
    ◌≡◌ {A = List (Reading T (List A))} ((read (take n ts), drop n ts) ∷ []) (([], ts) ∷ [])
idle_at {T = T} {A = A} n ts read none e =
    ap {B = List (Reading T (List A))} (λ (m : ℕ). (read (take m ts), drop m ts) ∷ []) e ∙ ap {B = List (Reading T (List A))} (λ (xs : List A). (xs, ts) ∷ []) none

pub offers_within_items : {T A : Type 0} {s f : Test T} {p : Rule T A} {g : Descent T A} (size : List T → ℕ) (segment : List T → ℕ) (error : List T → A) → Parses s f p g →
    Offers nothing (reaches size) [] (within size (items p segment error)) (take_within size (take_items g segment error))
offers_within_items {T = T} {A = A} {p = p} {g = g} size segment error a = record {
  leads = λ ts. inl (ap (λ (xs : List A). (xs, drop (size ts) ts)) (same_items segment error a (length (take (size ts) ts)) (take (size ts) ts)), tt);
  found = λ ts. tt;
  idle = λ ts e. idle_at (size ts) ts (λ us. items_at (length us) p segment error us) refl (none_within (size ts) e);
  keeps = λ ts. (dropped (size ts) ts, tt);
}
