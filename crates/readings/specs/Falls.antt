-- What a descent finds has a token.
use Rattle.std.specs.Prelude.{◌≡◌, ℕ, ◌<◌, Bool, true, false, List, [], Option, Some, None, length, refl}
use Rattle.std.proofs.Common.{subst}
use Rattle.readings.specs.Readings.{Reading, Rule, Test}
use Rattle.readings.specs.Descent.{Descent}
use Rattle.readings.specs.Leading.{Each, Leads, Matches, Fewer, Parses}
use Rattle.readings.specs.Lists.{leads_has, matches_none}

-- what the descent finds has a token
abbrev pub Falls : {T A : Type 0} → Descent T A → Type 0
Falls {T = T} {A = A} g = (ts : List T) (x : Reading T A) → g ts ≡ Some x → length x.1 < length ts

falls_at : {T A : Type 0} (s : Test T) (n : ℕ) (all : List (Reading T A)) (o : Option (Reading T A)) → Matches s all o → Each (Fewer {A = A} n) all → (x : Reading T A) → o ≡ Some x → length x.1 < n
falls_at s n all None m each x e = absurd (cc)
falls_at {T = T} {A = A} s n all (Some b) m each x e = let d : b ≡ x = cc in subst (λ (v : Reading T A). length v.1 < n) d (leads_has s (Fewer {A = A} n) all b m each)

pub parses_falls : {T A : Type 0} {s f : Test T} {p : Rule T A} {g : Descent T A} → Parses s f p g → Falls g
parses_falls {s = s} {p = p} {g = g} a ts x e = falls_at s (length ts) (p ts) (g ts) (a.leads ts) (a.shrinks ts) x e

found_at : {T A : Type 0} (s : Test T) (n : Bool) (all : List (Reading T A)) (o : Option (Reading T A)) → Matches s all o → (n ≡ false → all ≡ []) → (x : Reading T A) → o ≡ Some x → n ≡ true
found_at s true all o m st x e = refl
found_at {T = T} {A = A} s false all None m st x e = absurd (cc)
found_at {T = T} {A = A} s false all (Some b) m st x e = let i : Leads s [] b = subst (λ (v : List (Reading T A)). Leads s v b) (st refl) m in elim i [ ]

-- where the descent finds something the tokens pass the test of what the rule begins with
pub parses_begins : {T A : Type 0} {s f : Test T} {p : Rule T A} {g : Descent T A} → Parses s f p g → (ts : List T) (x : Reading T A) → g ts ≡ Some x → f ts ≡ true
parses_begins {s = s} {f = f} {p = p} {g = g} a ts x e = found_at s (f ts) (p ts) (g ts) (a.leads ts) (a.starts ts) x e

-- and elsewhere it finds nothing
pub parses_misses : {T A : Type 0} {s f : Test T} {p : Rule T A} {g : Descent T A} → Parses s f p g → (ts : List T) → f ts ≡ false → g ts ≡ None
parses_misses {s = s} {f = f} {p = p} {g = g} a ts e = matches_none s (p ts) (g ts) (a.leads ts) (a.starts ts e)
