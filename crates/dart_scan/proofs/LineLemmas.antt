-- How far the bytes of a class go, from a place on and in a part of a text.
use Rattle.std.proofs.Common.{◌≡◌, ℕ, zero, suc, ◌+◌, ◌-◌, ◌≤◌, min, Bool, true, false, List, [], ◌∷◌, length, take, drop, if◌then◌else◌, refl, ap, ◌∙◌, arith}
use Rattle.std.specs.Prelude.{take_while, slice_range}
use Rattle.std.proofs.lemmas.List.{drop-drop}
use Rattle.std.proofs.lemmas.List.Sums.{take_while-cons}
use Rattle.dart_scan.specs.Characters.{is_within_line}
use Rattle.dart_scan.specs.Lexemes.{run}

run-cons : (p : ℕ → Bool) (b : ℕ) (text : List ℕ) → run p (b ∷ text) ≡ (if p b then 1 + run p text else 0)
run-cons p b text = ap length (take_while-cons p b text) ∙ of (p b)
  where
    of : (s : Bool) → length (if s then b ∷ take_while p text else []) ≡ (if s then 1 + length (take_while p text) else 0)
    of true = omega arith
    of false = refl

run-drop : (p : ℕ → Bool) (n : ℕ) (text : List ℕ) → n ≤ run p text → run p text ≡ n + run p (drop n text)
run-drop p zero text h = omega arith
run-drop p (suc n) [] h = absurd (omega (arith, h))
run-drop p (suc n) (b ∷ text) h = of (p b) (run-cons p b text) (run-drop p n text)
  where
    of : (s : Bool) → run p (b ∷ text) ≡ (if s then 1 + run p text else 0) → (n ≤ run p text → run p text ≡ n + run p (drop n text)) → run p (b ∷ text) ≡ suc n + run p (drop n text)
    of true e rest = omega (arith, e, rest (omega (arith, h, e)))
    of false e rest = absurd (omega (arith, h, e))

-- the end of a line, from a later place of it
pub end-from : (text : List ℕ) (from end at : ℕ) → end ≡ from + run is_within_line (drop from text) → from ≤ at → at ≤ end → end ≡ at + run is_within_line (drop at text)
end-from text from end at e h k =
    let place : from + (at - from) ≡ at = omega (arith, h) in
    let on : run is_within_line (drop from text) ≡ (at - from) + run is_within_line (drop (at - from) (drop from text)) = run-drop is_within_line (at - from) (drop from text) (omega (arith, e, h, k)) in
    let there : run is_within_line (drop (at - from) (drop from text)) ≡ run is_within_line (drop at text) = ap (run is_within_line) (drop-drop (at - from) from text ∙ ap (λ n. drop n text) place) in
    omega (arith, e, on, there, h)

run-take : (p : ℕ → Bool) (n : ℕ) (text : List ℕ) → run p (take n text) ≡ min n (run p text)
run-take p zero text = omega arith
run-take p (suc n) [] = omega arith
run-take p (suc n) (b ∷ text) = run-cons p b (take n text) ∙ of (p b) (run-cons p b text) (run-take p n text)
  where
    of : (s : Bool) → run p (b ∷ text) ≡ (if s then 1 + run p text else 0) → run p (take n text) ≡ min n (run p text) → (if s then 1 + run p (take n text) else 0) ≡ min (suc n) (run p (b ∷ text))
    of true e rest = omega (arith, e, rest)
    of false e rest = omega (arith, e)

-- a string of one quote reaches to the end of its line
pub line-reach : (text : List ℕ) (at end last : ℕ) → at ≤ end → last ≡ at + run is_within_line (drop at text) → min last end ≡ at + run is_within_line (slice_range text at end)
line-reach text at end last h e = omega (arith, h, e, run-take is_within_line (end - at) (drop at text))
