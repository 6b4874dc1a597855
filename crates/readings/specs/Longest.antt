-- The longest of readings of which one leads the others.
use Rattle.std.specs.Prelude.{◌≡◌, ℕ, suc, ◌<◌, ◌≤◌, Bool, true, false, List, [], ◌∷◌, Option, Some, None, length, nat_lt, if◌then◌else◌, refl}
use Rattle.std.proofs.Common.{sym, ◌∙◌, ap, inl, inr, arith}
use Rattle.std.proofs.lemmas.Bool.Decides.{nat_tests}
use Rattle.readings.specs.Readings.{Reading, Rule, Test, better, longest, whole_or, whole}
use Rattle.readings.specs.Descent.{Descent, complete}
use Rattle.readings.specs.Leading.{Each, Late, Leads, Matches, Parses}

better_keeps : {T A : Type 0} (x y : Reading T A) → length x.1 ≤ length y.1 → better x (Some y) ≡ Some x
better_keeps x y h = grind (arith, nat_tests)

better_takes : {T A : Type 0} (x y : Reading T A) → length y.1 < length x.1 → better x (Some y) ≡ Some y
better_takes x y h = grind (arith, nat_tests)

no_longer : {T A : Type 0} (s : Test T) (b x : Reading T A) → Late s b x → length b.1 ≤ length x.1
no_longer {T = T} s b x (inl e) = omega (arith, ap (λ (ts : List T). length ts) e)
no_longer s b x (inr d) = omega (arith, d.0)

-- no reading that may be there is longer than b
abbrev NotLonger : {T A : Type 0} → Reading T A → Option (Reading T A) → Type 0
NotLonger b None = Unit {0}
NotLonger b (Some y) = length b.1 ≤ length y.1

better_not_longer : {T A : Type 0} (b x : Reading T A) (t : Bool) (y : Reading T A) → length b.1 ≤ length x.1 → length b.1 ≤ length y.1 → NotLonger b (if t then Some y else Some x)
better_not_longer b x true y h k = k
better_not_longer b x false y h k = h

best_not_longer : {T A : Type 0} (b x : Reading T A) (o : Option (Reading T A)) → length b.1 ≤ length x.1 → NotLonger b o → NotLonger b (better x o)
best_not_longer b x None h n = h
best_not_longer b x (Some y) h n = better_not_longer b x (nat_lt (length y.1) (length x.1)) y h n

behind_not_longer : {T A : Type 0} (s : Test T) (b : Reading T A) (xs : List (Reading T A)) → Each (Late {A = A} {B = A} s b) xs → NotLonger b (longest xs)
behind_not_longer s b [] each = tt
behind_not_longer s b (x ∷ xs) each = best_not_longer b x (longest xs) (no_longer s b x each.0) (behind_not_longer s b xs each.1)

stays_at : {T A : Type 0} (b : Reading T A) (o : Option (Reading T A)) → NotLonger b o → better b o ≡ Some b
stays_at b None n = refl
stays_at b (Some y) n = better_keeps b y n

-- what leads all readings is the first of the longest
pub longest_leads : {T A : Type 0} (s : Test T) (all : List (Reading T A)) (b : Reading T A) → Leads s all b → longest all ≡ Some b
longest_leads s [] b i = elim i [ ]
longest_leads s (x ∷ xs) b (inl h) = ap (λ v. better v (longest xs)) h.0 ∙ stays_at b (longest xs) (behind_not_longer s b xs h.1)
longest_leads s (x ∷ xs) b (inr h) = ap (better x) (longest_leads s xs b h.1) ∙ better_takes x b h.0.0

pub longest_is : {T A : Type 0} (s : Test T) (all : List (Reading T A)) (o : Option (Reading T A)) → Matches s all o → longest all ≡ o
longest_is s all None m = ap longest m
longest_is s all (Some b) m = longest_leads s all b m

-- a descent that parses a rule finds the first of its longest readings
pub parses_longest : {T A : Type 0} {s f : Test T} {p : Rule T A} {g : Descent T A} → Parses s f p g → (ts : List T) → longest (p ts) ≡ g ts
parses_longest {s = s} {p = p} {g = g} a ts = longest_is s (p ts) (g ts) (a.leads ts)

none_below : (n : ℕ) → nat_lt n 0 ≡ false
none_below n = grind (arith, nat_tests)

pub some_above : (n : ℕ) → nat_lt 0 (suc n) ≡ true
some_above n = grind (arith, nat_tests)

incomplete : {T A : Type 0} (b : Bool) (x y : A) (t u : T) (ts us : List T) → complete (if b then Some (y, u ∷ us) else Some (x, t ∷ ts)) ≡ None
incomplete true x y t u ts us = refl
incomplete false x y t u ts us = refl

complete_at : {T A : Type 0} (x y : A) (ts us : List T) → complete (if nat_lt (length us) (length ts) then Some (y, us) else Some (x, ts)) ≡ whole_or x ts (whole_or y us None)
complete_at x y [] us = let e : nat_lt (length us) 0 ≡ false = none_below (length us) in rw e refl
complete_at x y (t ∷ ts) [] = let e : nat_lt 0 (suc (length ts)) ≡ true = some_above (length ts) in rw e refl
complete_at x y (t ∷ ts) (u ∷ us) = incomplete (nat_lt (length (u ∷ us)) (length (t ∷ ts))) x y t u ts us

complete_best : {T A : Type 0} (x : A) (ts : List T) (o : Option (Reading T A)) → complete (better (x, ts) o) ≡ whole_or x ts (complete o)
complete_best x ts None = refl
complete_best x ts (Some y) = complete_at x y.0 ts y.1

-- the first reading that leaves no token is the longest, if that one leaves none
pub whole_is : {T A : Type 0} (all : List (Reading T A)) → whole all ≡ complete (longest all)
whole_is [] = refl
whole_is (x ∷ xs) = ap (whole_or x.0 x.1) (whole_is xs) ∙ sym (complete_best x.0 x.1 (longest xs))

-- and the descent finds it
pub parses_whole : {T A : Type 0} {s f : Test T} {p : Rule T A} {g : Descent T A} → Parses s f p g → (ts : List T) → whole (p ts) ≡ complete (g ts)
parses_whole {p = p} a ts = whole_is (p ts) ∙ ap complete (parses_longest a ts)
