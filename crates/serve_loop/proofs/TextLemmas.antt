use Rattle.std.proofs.Common.{◌≡◌, ◌≢◌, ℕ, ◌+◌, ◌-◌, ◌<◌, ◌≤◌, Bool, true, false, List, [], ◌∷◌, ◌++◌, take, drop, refl, sym, ◌∙◌, ap, arith, append_assoc, ltb, lt-ltb, le-ltb, eqb, length, inl, inr}
use Rattle.std.proofs.lemmas.List.{append-nil, length-append}
use Rattle.std.proofs.lemmas.Bool.{cases_lt, cases_Bool, or_parts}
use Rattle.std.proofs.Math.Seq.{take-add}
use Rattle.fault_io.specs.Lines.{has_line_feed, lines_of, begin_line}
use Rattle.fault_io.specs.LineLaws.{lines_of-line, lines_of-last}
use Rattle.serve_loop.specs.Replies.{text_of}
use Rattle.serve_loop.specs.Turn.{AreLines}

pub text_of-push : (lines : List (List ℕ)) (line rest : List ℕ) → text_of (lines ++ line ∷ []) ++ rest ≡ text_of lines ++ (line ++ 10 ∷ rest)
text_of-push [] line rest = rw append-nil (append_assoc line (10 ∷ []) rest)
text_of-push (l ∷ ls) line rest =
    append_assoc (l ++ 10 ∷ []) (text_of (ls ++ line ∷ [])) rest ∙ ap (λ ys. (l ++ 10 ∷ []) ++ ys) (text_of-push ls line rest) ∙ sym (append_assoc (l ++ 10 ∷ []) (text_of ls) (line ++ 10 ∷ rest))

pub AreLines-push : (lines : List (List ℕ)) (line : List ℕ) → AreLines lines → has_line_feed line ≡ false → AreLines (lines ++ line ∷ [])
AreLines-push [] line a h = (h, tt)
AreLines-push (l ∷ ls) line a h = (a.0, AreLines-push ls line a.1 h)

-- the lines of a text
pub lines_of-text_of : (ended : Bool) (lines : List (List ℕ)) (rest : List ℕ) → AreLines lines → lines_of ended (text_of lines ++ rest) ≡ lines ++ lines_of ended rest
lines_of-text_of ended [] rest a = refl
lines_of-text_of ended (l ∷ ls) rest a =
    let e : ((l ++ 10 ∷ []) ++ text_of ls) ++ rest ≡ l ++ 10 ∷ (text_of ls ++ rest) = append_assoc (l ++ 10 ∷ []) (text_of ls) rest ∙ append_assoc l (10 ∷ []) (text_of ls ++ rest) in
    ap (λ ys. lines_of ended ys) e ∙ lines_of-line ended l (text_of ls ++ rest) a.0 ∙ ap (λ ys. l ∷ ys) (lines_of-text_of ended ls rest a.1)

-- further on in the input
pub take_further : (input text kept : List ℕ) (t n : ℕ) → t ≤ n → take t input ≡ text ++ kept → take n input ≡ text ++ (kept ++ take (n - t) (drop t input))
take_further input text kept t n h e =
    let s : t + (n - t) ≡ n = omega arith in
    let a : take (t + (n - t)) input ≡ take t input ++ take (n - t) (drop t input) = take-add t (n - t) input in
    let b : take n input ≡ take t input ++ take (n - t) (drop t input) = rw s at a in
    b ∙ ap (λ ys. ys ++ take (n - t) (drop t input)) e ∙ append_assoc text kept _

pub ltb-sub : (t l b : ℕ) → t ≤ l → t ≤ b → ltb (l - t) (b - t) ≡ ltb l b
ltb-sub t l b h k =
    elim (cases_lt l b) [
      | inl lt ↦ (let m : l - t < b - t = omega arith in lt-ltb (l - t) (b - t) m) ∙ sym (lt-ltb l b lt)
      | inr le ↦ (let m : b - t ≤ l - t = omega arith in le-ltb (l - t) (b - t) m) ∙ sym (le-ltb l b le)
    ]

pub lines_of-whole : (line : List ℕ) → line ≢ [] → has_line_feed line ≡ false → lines_of true line ≡ line ∷ []
lines_of-whole [] n h = absurd (n refl)
lines_of-whole (x ∷ xs) n h = lines_of-last x xs h

text_of-begin : (x : ℕ) (lines : List (List ℕ)) → length (text_of (begin_line false x lines)) ≤ length (text_of lines) + 1
text_of-begin x [] = omega arith
text_of-begin x (l ∷ ls) = omega arith

-- the finished lines of some bytes, each with its line feed, are no longer than these
text_of-lines_of : (xs : List ℕ) → length (text_of (lines_of false xs)) ≤ length xs
text_of-lines_of [] = omega arith
text_of-lines_of (x ∷ xs) =
    elim (cases_Bool (eqb x 10)) [
      | inl t ↦ rw t (omega (arith, text_of-lines_of xs))
      | inr f ↦ rw f (omega (arith, text_of-begin x (lines_of false xs), text_of-lines_of xs))
    ]

behind-begin : (x : ℕ) (lines : List (List ℕ)) → drop 1 (begin_line false x lines) ≡ drop 1 lines
behind-begin x [] = refl
behind-begin x (l ∷ ls) = refl

behind-less : (lines : List (List ℕ)) → length (text_of (drop 1 lines)) ≤ length (text_of lines)
behind-less [] = omega arith
behind-less (l ∷ ls) = omega (arith, length-append (l ++ 10 ∷ []) (text_of ls))

-- so are those behind the first, which has one byte at least
behind-lines_of : (xs : List ℕ) → length (text_of (drop 1 (lines_of false xs))) ≤ length xs - 1
behind-lines_of [] = omega arith
behind-lines_of (x ∷ xs) =
    elim (cases_Bool (eqb x 10)) [
      | inl t ↦ rw t (omega (arith, text_of-lines_of xs))
      | inr f ↦ rw (f, behind-begin x (lines_of false xs)) (omega (arith, behind-less (lines_of false xs), text_of-lines_of xs))
    ]

-- and where the first line feed stands behind a part
pub behind-part : (part rest : List ℕ) → has_line_feed part ≡ false → length (text_of (drop 1 (lines_of false (part ++ rest)))) ≤ length rest - 1
behind-part [] rest n = behind-lines_of rest
behind-part (x ∷ part) rest n =
    let p = or_parts (eqb x 10) (has_line_feed part) n in
    let f : eqb x 10 ≡ false = p.0 in
    rw (f, behind-begin x (lines_of false (part ++ rest))) (behind-part part rest p.1)
