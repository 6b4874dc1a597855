-- Where a text in UTF-8 may be cut, so that both parts are texts.
use Rattle.std.proofs.Common.{◌≡◌, ℕ, ◌+◌, ◌<◌, ◌≤◌, ◌==◌, Bool, true, false, cond, ◌&&◌, ◌||◌, List, [], ◌∷◌, length, take, drop, get_or, take_while, nat_lt, nat_le, refl, sym, ap, subst, arith, inl, inr, lit<}
use Rattle.std.specs.List.{list_all}
use Rattle.std.specs.Str.{IsUtf8, IsCharBoundary}
use Rattle.std.proofs.lemmas.Bool.{false≢true, cond_both, and_parts, or_cases, cases_lt, leb-true, eqb-true, ltb-true, not-false}
use Rattle.std.proofs.lemmas.List.{drop-drop, drop_all, take_all}
use Rattle.std.proofs.lemmas.List.Folds.{length-prefix_len}
use Rattle.std.proofs.lemmas.List.Sums.{take_while-cons}
use Rattle.std.proofs.lemmas.Str.{IsUtf8-nil, IsUtf8-take, IsUtf8-drop, IsCharBoundary-before_ascii, IsCharBoundary-after_ascii, IsCharBoundary-from_drop}
use Rattle.dart_scan.specs.Characters.{is_digit, is_hexadecimal_digit, is_identifier_start, is_identifier_part, is_blank, is_within_line}
use Rattle.dart_scan.specs.Lexemes.{begins, run}

-- what stands behind so many bytes is a text
abbrev pub IsTextFrom : ℕ → List ℕ → Type 0
IsTextFrom n text = IsUtf8 (drop n text)

pub past_end : (n : ℕ) (text : List ℕ) → length text ≤ n → IsTextFrom n text
past_end n text h = let P : List ℕ → Type 0 = IsUtf8 in subst P (sym (drop_all n text h)) IsUtf8-nil

pub at_boundary : (n : ℕ) (text : List ℕ) → IsUtf8 text → IsTextFrom n text → n ≤ length text → IsCharBoundary text n
at_boundary n text u back h = IsCharBoundary-from_drop text n h back

-- then what stands before is a text too
pub front_text : (n : ℕ) (text : List ℕ) → IsUtf8 text → IsTextFrom n text → IsUtf8 (take n text)
front_text n text u back = elim (cases_lt (length text) n) [
  | inl past ↦ let P : List ℕ → Type 0 = IsUtf8 in subst P (sym (take_all n text (omega arith))) u
  | inr within ↦ IsUtf8-take text n u (IsCharBoundary-from_drop text n within back)
]

pub before_ascii : (n : ℕ) (text : List ℕ) → IsUtf8 text → (n < length text → get_or text n 0 < 128) → IsTextFrom n text
before_ascii n text u stops = elim (cases_lt n (length text)) [
  | inl within ↦ IsUtf8-drop text n u (IsCharBoundary-before_ascii text n within (stops within))
  | inr past ↦ past_end n text past
]

pub after_first : (byte : ℕ) (text : List ℕ) → byte < 128 → IsUtf8 (byte ∷ text) → IsUtf8 text
after_first byte text h u = IsUtf8-drop (byte ∷ text) 1 u (IsCharBoundary-after_ascii (byte ∷ text) 0 u (omega arith) h)

-- one part behind another
pub behind_both : (a n : ℕ) (text : List ℕ) → IsTextFrom n (drop a text) → IsTextFrom (a + n) text
behind_both a n text h = let P : List ℕ → Type 0 = IsUtf8 in subst P (drop-drop n a text) h

pub chosen : (b : Bool) (m n : ℕ) (text : List ℕ) → (b ≡ true → IsTextFrom m text) → (b ≡ false → IsTextFrom n text) → IsTextFrom (cond b m n) text
chosen b m n text h k = cond_both b m n (λ size. IsTextFrom size text) h k

-- bytes of a class, all of which are ASCII
abbrev pub IsAsciiClass : (ℕ → Bool) → Type 0
IsAsciiClass class = (byte : ℕ) → class byte ≡ true → byte < 128

run-case : (class : ℕ → Bool) → IsAsciiClass class → (byte : ℕ) (text : List ℕ) (b : Bool) → class byte ≡ b → IsUtf8 (byte ∷ text) → (IsUtf8 text → IsTextFrom (run class text) text)
    → IsTextFrom (length (cond b (byte ∷ take_while class text) [])) (byte ∷ text)
run-case class ascii byte text true e u more = more (after_first byte text (ascii byte e) u)
run-case class ascii byte text false e u more = u

pub run-text : (class : ℕ → Bool) → IsAsciiClass class → (text : List ℕ) → IsUtf8 text → IsTextFrom (run class text) text
run-text class ascii [] u = u
run-text class ascii (byte ∷ text) u =
    let P : List ℕ → Type 0 = λ bytes. IsTextFrom (length bytes) (byte ∷ text) in
    subst P (sym (take_while-cons class byte text)) (run-case class ascii byte text (class byte) refl u (run-text class ascii text))

stops-case : (class : ℕ → Bool) (byte : ℕ) (text : List ℕ) (b : Bool) → class byte ≡ b → length (cond b (byte ∷ take_while class text) []) < length (byte ∷ text) → (run class text < length text → class (get_or text (run class text) 0) ≡ false)
    → class (get_or (byte ∷ text) (length (cond b (byte ∷ take_while class text) [])) 0) ≡ false
stops-case class byte text true e h more = more (omega (arith, h))
stops-case class byte text false e h more = e

-- a run ends at a byte that isn't of its class
pub run-stops : (class : ℕ → Bool) (text : List ℕ) → run class text < length text → class (get_or text (run class text) 0) ≡ false
run-stops class [] h = absurd (omega (arith, h))
run-stops class (byte ∷ text) h =
    let P : List ℕ → Type 0 = λ bytes. length bytes < length (byte ∷ text) → class (get_or (byte ∷ text) (length bytes) 0) ≡ false in
    subst P (sym (take_while-cons class byte text)) (λ less. stops-case class byte text (class byte) refl less (run-stops class text)) h

-- a run is what is taken of its class
pub take_run : (class : ℕ → Bool) (text : List ℕ) → take_while class text ≡ take (run class text) text
take_run class text = ap (λ n. take n text) (sym (length-prefix_len class text))

-- all bytes are ASCII
abbrev pub all_ascii : List ℕ → Bool
all_ascii bytes = list_all (λ byte. nat_lt byte 128) bytes

pub begins-text : (mark text : List ℕ) → all_ascii mark ≡ true → begins text mark ≡ true → IsUtf8 text → IsTextFrom (length mark) text
begins-text [] text a b u = u
begins-text (byte ∷ mark) [] a b u = absurd (false≢true b)
begins-text (byte ∷ mark) (first ∷ text) a b u =
    let ascii = and_parts _ _ a in
    let same = and_parts _ _ b in
    let lead : byte ≡ first = eqb-true _ _ same.0 in
    let low : byte < 128 = ltb-true _ _ ascii.0 in
    begins-text mark text ascii.1 same.1 (after_first first text (omega arith) u)

-- tests that only an ASCII byte passes
low_or : (x y : Bool) (byte : ℕ) → (x ≡ true → byte < 128) → (y ≡ true → byte < 128) → (x || y) ≡ true → byte < 128
low_or x y byte f g h = elim (or_cases x y h) [ inl a ↦ f a | inr b ↦ g b ]

low_between : (first last byte : ℕ) → last < 128 → (nat_le first byte && nat_le byte last) ≡ true → byte < 128
low_between first last byte low h = let within : byte ≤ last = leb-true byte last (and_parts (nat_le first byte) (nat_le byte last) h).1 in omega arith

low_equal : (one byte : ℕ) → one < 128 → (byte == one) ≡ true → byte < 128
low_equal one byte low h = let same : byte ≡ one = eqb-true byte one h in omega arith

-- the classes
pub digits_are_ascii : IsAsciiClass is_digit
digits_are_ascii byte h = low_between 48 57 byte (lit< tt) h

pub hexadecimal_digits_are_ascii : IsAsciiClass is_hexadecimal_digit
hexadecimal_digits_are_ascii byte h =
    low_or (is_digit byte) ((nat_le 65 byte && nat_le byte 70) || (nat_le 97 byte && nat_le byte 102)) byte (digits_are_ascii byte)
    (low_or (nat_le 65 byte && nat_le byte 70) (nat_le 97 byte && nat_le byte 102) byte (low_between 65 70 byte (lit< tt)) (low_between 97 102 byte (lit< tt))) h

pub starts_are_ascii : IsAsciiClass is_identifier_start
starts_are_ascii byte h =
    low_or (nat_le 65 byte && nat_le byte 90) ((nat_le 97 byte && nat_le byte 122) || (byte == 95 || byte == 36)) byte (low_between 65 90 byte (lit< tt))
    (low_or (nat_le 97 byte && nat_le byte 122) (byte == 95 || byte == 36) byte (low_between 97 122 byte (lit< tt))
    (low_or (byte == 95) (byte == 36) byte (low_equal 95 byte (lit< tt)) (low_equal 36 byte (lit< tt)))) h

pub parts_are_ascii : IsAsciiClass is_identifier_part
parts_are_ascii byte h = low_or (is_identifier_start byte) (is_digit byte) byte (starts_are_ascii byte) (digits_are_ascii byte) h

pub blanks_are_ascii : IsAsciiClass is_blank
blanks_are_ascii byte h =
    low_or (byte == 32 || byte == 9) (byte == 10 || byte == 13) byte (low_or (byte == 32) (byte == 9) byte (low_equal 32 byte (lit< tt)) (low_equal 9 byte (lit< tt)))
    (low_or (byte == 10) (byte == 13) byte (low_equal 10 byte (lit< tt)) (low_equal 13 byte (lit< tt))) h

pub newlines_are_ascii : (byte : ℕ) → is_within_line byte ≡ false → byte < 128
newlines_are_ascii byte h =
    low_or (byte == 10) (byte == 13) byte (low_equal 10 byte (lit< tt)) (low_equal 13 byte (lit< tt)) (not-false (byte == 10 || byte == 13) h)
