-- What stands in a group of brackets is read to its end.
use Rattle.std.specs.Prelude.{◌≡◌, ℕ, zero, suc, ◌<◌, ◌≤◌, Bool, true, false, List, [], ◌∷◌, Option, Some, None, option_map, length, take, drop, if◌then◌else◌, refl}
use Rattle.std.proofs.Common.{◌∙◌, ap, arith}
use Rattle.readings.specs.Readings.{Reading, Rule, Test, next, optional, whole, inside}
use Rattle.readings.specs.Descent.{Descent, complete, take_inside}
use Rattle.readings.specs.Leading.{Each, Starts, Shrinks, Fewer, Parses, Sole}
use Rattle.readings.specs.Longest.{parses_whole}

optional_if : {A : Type 0} (b : Bool) (o : Option A) → (if b then optional o else []) ≡ optional (if b then o else None)
optional_if true o = refl
optional_if false o = refl

alone_at : {T A : Type 0} (b : Bool) (f : A → Reading T (T × A)) (o w : Option A) → w ≡ o → (if b then optional (option_map f w) else []) ≡ optional (if b then option_map f o else None)
alone_at {T = T} {A = A} b f o w e = ap (λ (v : Option A). if b then optional (option_map f v) else []) e ∙ optional_if b (option_map f o)

-- one fact for all rules of which the whole reading is known
pub alone_inside : {T A : Type 0} (opens : T → Bool) (width past : T → ℕ) (p : Rule T A) (g : Descent T A) → ((ts : List T) → whole (p ts) ≡ complete (g ts)) → (ts : List T) → inside opens width past p ts ≡ optional (take_inside opens width past g ts)
alone_inside opens width past p g same [] = refl
alone_inside opens width past p g same (t ∷ ts) =
    alone_at (opens t) (λ a. ((t, a), drop (past t) ts)) (complete (g (take (width t) ts))) (whole (p (take (width t) ts))) (same (take (width t) ts))

starts_inside : {T A : Type 0} (opens : T → Bool) (width past : T → ℕ) (p : Rule T A) → Starts (next opens) (inside opens width past p)
starts_inside opens width past p [] e = refl
starts_inside opens width past p (t ∷ ts) e = rw e refl

shrinks_at : {T A : Type 0} (n : ℕ) (rest : List T) (t : T) → length rest < n → (b : Bool) (o : Option A) → Each (Fewer {T = T} {A = T × A} n) (if b then optional (option_map (λ a. ((t, a), rest)) o) else [])
shrinks_at n rest t h true None = tt
shrinks_at n rest t h true (Some a) = (h, tt)
shrinks_at n rest t h false o = tt

pub dropped : {T : Type 0} (n : ℕ) (ts : List T) → length (drop n ts) ≤ length ts
dropped zero ts = omega arith
dropped (suc n) [] = omega arith
dropped (suc n) (t ∷ ts) = omega (arith, dropped n ts)

shrinks_inside : {T A : Type 0} (opens : T → Bool) (width past : T → ℕ) (p : Rule T A) → Shrinks (inside opens width past p)
shrinks_inside opens width past p [] = tt
shrinks_inside opens width past p (t ∷ ts) = shrinks_at (suc (length ts)) (drop (past t) ts) t (omega (arith, dropped (past t) ts)) (opens t) (whole (p (take (width t) ts)))

-- a group has no other reading
pub sole_inside_of : {T A : Type 0} (opens : T → Bool) (width past : T → ℕ) (p : Rule T A) (g : Descent T A) → ((ts : List T) → whole (p ts) ≡ complete (g ts)) → Sole (next opens) (inside opens width past p) (take_inside opens width past g)
sole_inside_of opens width past p g same = record { alone = alone_inside opens width past p g same; starts = starts_inside opens width past p; shrinks = shrinks_inside opens width past p }

pub sole_inside : {T A : Type 0} {s f : Test T} {p : Rule T A} {g : Descent T A} (opens : T → Bool) (width past : T → ℕ) → Parses s f p g → Sole (next opens) (inside opens width past p) (take_inside opens width past g)
sole_inside {p = p} {g = g} opens width past a = sole_inside_of opens width past p g (parses_whole a)
