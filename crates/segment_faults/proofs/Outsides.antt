-- Tokens outside groups, one after the other.
use Rattle.std.proofs.Common.{◌≡◌, ℕ, zero, suc, ◌+◌, ◌-◌, ◌<◌, ◌≤◌, Bool, true, false, List, [], ◌∷◌, drop, filter, length, if◌then◌else◌, refl, ◌∙◌, arith}
use Rattle.dart_tokens.specs.declared.grouped_token.GroupedToken.{GroupedToken as Token}
use Rattle.segment_faults.specs.Nesting.{is_punctuation, outside}

-- how many lexemes of punctuation stand outside groups, where the first so many tokens stand in one
abbrev pub lexemes_outside : ℕ → List Token → ℕ
lexemes_outside inside ts = length (filter is_punctuation (outside inside ts))

-- what is counted when some tokens are gone over
pub record IsCounted (segment rest : List Token) (gone inside lexemes : ℕ) : Type 0 where
  pub all : lexemes_outside 0 segment ≡ lexemes + lexemes_outside inside rest
  pub few : lexemes ≤ gone

-- one more in a group
pub counted_inside : (segment from rest : List Token) (t : Token) (gone inside less lexemes same : ℕ) → from ≡ t ∷ rest → suc less ≡ inside → same ≡ lexemes →
    IsCounted segment from gone inside lexemes → IsCounted segment rest (gone + 1) less same
counted_inside segment from rest t gone inside less lexemes same f e s before =
    let few : lexemes ≤ gone = before.few in
    let all : lexemes_outside 0 segment ≡ lexemes + lexemes_outside inside from = before.all in
    let step : lexemes_outside inside from ≡ lexemes_outside less rest = rw (f, ← e) refl in
    record { all = omega (arith, all, step, s); few = omega (arith, few, s) }

-- one more outside
pub counted_outside : (segment from rest : List Token) (t : Token) (gone inside width lexemes more : ℕ) → from ≡ t ∷ rest → inside ≤ 0 → width ≡ t.width →
    more ≡ (if is_punctuation t then lexemes + 1 else lexemes) → IsCounted segment from gone inside lexemes → IsCounted segment rest (gone + 1) width more
counted_outside segment from rest t gone inside width lexemes more f z w is before =
    let none : inside ≡ 0 = omega (arith, z) in
    let all : lexemes_outside 0 segment ≡ lexemes + lexemes_outside inside from = before.all in
    let few : lexemes ≤ gone = before.few in
    let step : lexemes_outside inside from ≡ lexemes_outside 0 (t ∷ rest) = rw (f, none) refl in
    let now : lexemes_outside 0 segment ≡ lexemes + lexemes_outside 0 (t ∷ rest) = omega (arith, all, step) in
    rw w (by (is_punctuation t) refl now few is)
  where
    by : (b : Bool) → is_punctuation t ≡ b → lexemes_outside 0 segment ≡ lexemes + lexemes_outside 0 (t ∷ rest) → lexemes ≤ gone →
        more ≡ (if is_punctuation t then lexemes + 1 else lexemes) → IsCounted segment rest (gone + 1) t.width more
    by true u now few is = let m : more ≡ lexemes + 1 = rw u at is in let n : lexemes_outside 0 segment ≡ lexemes + suc (lexemes_outside t.width rest) = rw u at now in record { all = omega (arith, m, n); few = omega (arith, m, few) }
    by false u now few is = let m : more ≡ lexemes = rw u at is in let n : lexemes_outside 0 segment ≡ lexemes + lexemes_outside t.width rest = rw u at now in record { all = omega (arith, m, n); few = omega (arith, m, few) }
