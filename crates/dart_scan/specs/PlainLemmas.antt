-- How far the plain bytes of a piece of a string go, step by step.
use Rattle.std.proofs.Common.{◌≡◌, ℕ, ◌+◌, ◌≤◌, ◌==◌, ◌&&◌, not, Bool, true, false, List, [], ◌∷◌, length, drop, if◌then◌else◌, refl, ap, ◌∙◌, arith}
use Rattle.std.proofs.lemmas.List.{drop-drop, drop_all}
use Rattle.dart_scan.specs.Strings.{Form, ends_piece, plain_size}
use Rattle.dart_scan.specs.Openings.{taken}

pub plain-step : (form : Form) (text : List ℕ) → 1 ≤ length text → plain_size form text ≡ (if ends_piece form text then 0 else taken form.raw text + plain_size form (drop (taken form.raw text) text))
unfolding plain_size
plain-step form [] h = absurd (omega (arith, h))
plain-step form (byte ∷ []) h = refl
plain-step form (byte ∷ next ∷ text) h = ap (λ n. if ends_piece form (byte ∷ next ∷ text) then 0 else n) (chosen (not form.raw && byte == 92))
  where
    chosen : (escape : Bool) → (if escape then 2 + plain_size form text else 1 + plain_size form (next ∷ text)) ≡ (if escape then 2 else 1) + plain_size form (drop (if escape then 2 else 1) (byte ∷ next ∷ text))
    chosen true = refl
    chosen false = refl

-- one step of the walk, by what stands at its place
pub plain_ends : (form : Form) (text : List ℕ) (at : ℕ) → 1 ≤ length (drop at text) → ends_piece form (drop at text) ≡ true
    → plain_size form text ≡ at + plain_size form (drop at text) → at ≡ plain_size form text
plain_ends form text at some ends so_far =
    let here : plain_size form (drop at text) ≡ 0 = plain-step form (drop at text) some ∙ rw ends refl in
    omega (arith, so_far, here)

pub plain_goes_on : (form : Form) (text : List ℕ) (at size : ℕ) → 1 ≤ length (drop at text) → ends_piece form (drop at text) ≡ false → size ≡ taken form.raw (drop at text)
    → plain_size form text ≡ at + plain_size form (drop at text) → plain_size form text ≡ (at + size) + plain_size form (drop (at + size) text)
plain_goes_on form text at size some goes is so_far =
    let here : plain_size form (drop at text) ≡ size + plain_size form (drop size (drop at text)) = plain-step form (drop at text) some ∙ rw (goes, is) refl in
    let along : plain_size form (drop size (drop at text)) ≡ plain_size form (drop (at + size) text) = ap (plain_size form) (drop-drop size at text) in
    omega (arith, so_far, here, along)

pub plain_at_the_end : (form : Form) (text : List ℕ) (at : ℕ) → length text ≤ at → plain_size form text ≡ at + plain_size form (drop at text) → at ≡ plain_size form text
unfolding plain_size
plain_at_the_end form text at end so_far =
    let none : plain_size form (drop at text) ≡ 0 = ap (plain_size form) (drop_all at text end) in
    omega (arith, so_far, none)
