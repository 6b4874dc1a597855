-- Parts of a text, and the pieces that are spelled of it.
use Rattle.std.proofs.Common.{◌≡◌, ℕ, ◌+◌, ◌-◌, ◌≤◌, List, [], ◌∷◌, ◌++◌, length, take, drop, refl, sym, ap, ◌∙◌, arith, length-drop, length-take}
use Rattle.std.specs.Prelude.{slice_range}
use Rattle.std.proofs.lemmas.List.{drop-drop, drop-take, take-take, take_rest}
use Rattle.std.proofs.lemmas.List.Sums.{sum_by-cons}
use Rattle.std.proofs.Math.Seq.{take-add, take-append_seam}
use Rattle.dart_scan.specs.declared.piece.Piece.{Piece}
use Rattle.dart_scan.specs.Pieces.{spelled}
use Rattle.dart_scan.specs.Cutting.{size_of}

pub range-length : (text : List ℕ) (a b : ℕ) → a ≤ b → b ≤ length text → length (slice_range text a b) ≡ b - a
range-length text a b h k = omega (arith, h, k, length-take (b - a) (drop a text), length-drop a text)

pub range-drop : (text : List ℕ) (a b n : ℕ) → a + n ≤ b → drop n (slice_range text a b) ≡ slice_range text (a + n) b
range-drop text a b n h =
    let size : b - a ≡ n + (b - (a + n)) = omega arith in
    ap (λ m. drop n (take m (drop a text))) size ∙ drop-take n (b - (a + n)) (drop a text) ∙ ap (take (b - (a + n))) (drop-drop n a text)

pub range-take : (text : List ℕ) (a b n : ℕ) → n ≤ b - a → take n (slice_range text a b) ≡ take n (drop a text)
range-take text a b n h = take-take n (b - a) (drop a text) h

pub range-join : (text : List ℕ) (a b c : ℕ) → a ≤ b → b ≤ c → slice_range text a b ++ slice_range text b c ≡ slice_range text a c
range-join text a b c h k =
    let size : (b - a) + (c - b) ≡ c - a = omega arith in
    let place : a + (b - a) ≡ b = omega arith in
    ap (λ d. take (b - a) (drop a text) ++ take (c - b) d) (sym (drop-drop (b - a) a text ∙ ap (λ n. drop n text) place))
    ∙ sym (take-add (b - a) (c - b) (drop a text)) ∙ ap (λ n. take n (drop a text)) size

pub range-last : (text : List ℕ) (a : ℕ) → slice_range text a (length text) ≡ drop a text
range-last text a = take_rest text a

pub range-none : (text : List ℕ) (a : ℕ) → slice_range text a a ≡ []
range-none text a = let none : a - a ≡ 0 = omega arith in ap (λ n. take n (drop a text)) none

-- what stands before the rest of a list is its front
pub front-is : (front behind whole : List ℕ) → front ++ behind ≡ whole → take (length front) whole ≡ front
front-is front behind whole e = ap (take (length front)) (sym e) ∙ take-append_seam front behind

-- one piece more
pub spelled-push : (pieces : List Piece) (piece : Piece) (text : List ℕ) → spelled (pieces ++ piece ∷ []) text ≡ spelled pieces text ++ (piece.class, take piece.size (drop (size_of pieces) text)) ∷ []
unfolding spelled
spelled-push [] piece text = refl
spelled-push (p ∷ pieces) piece text =
    let along : drop (size_of pieces) (drop p.size text) ≡ drop (size_of (p ∷ pieces)) text = drop-drop (size_of pieces) p.size text ∙ ap (λ n. drop n text) (sym (sum_by-cons (λ (q : Piece). q.size) p pieces)) in
    ap (λ ps. (p.class, take p.size text) ∷ ps) (spelled-push pieces piece (drop p.size text) ∙ ap (λ rest. spelled pieces (drop p.size text) ++ (piece.class, take piece.size rest) ∷ []) along)
