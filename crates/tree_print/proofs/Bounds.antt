-- A lexeme is no longer than the text in which it stands.
use Rattle.std.proofs.Common.{◌≡◌, ℕ, suc, ◌+◌, ◌≤◌, ◌==◌, ◌||◌, ◌&&◌, Bool, true, false, List, [], ◌∷◌, length, drop, nat_lt, codes, if◌then◌else◌, Some, refl, ap, arith, length-drop, length-append}
use Rattle.std.specs.Option.{option_map_or}
use Rattle.dart_tokens.specs.declared.token.Kind.{Kind}
use Rattle.dart_tokens.specs.Marks.{marks, first_among}
use Rattle.dart_scan.specs.Characters.{is_beyond_ascii, is_digit, is_hexadecimal_digit, is_identifier_start, is_identifier_part}
use Rattle.dart_scan.specs.Lexemes.{begins, run, before_digits, word_size, hexadecimal_size, integer_size, fraction_size, sign_size, exponent_size, double_size, mark_size}
use Rattle.dart_scan.specs.Pieces.{longer, lexeme_at}
use Rattle.dart_scan.specs.declared.piece.Class.TheVariants.{IllegalCharacter, BeyondAscii, Word, Integer, Double, Mark}
use Rattle.dart_scan.specs.declared.piece.Piece.{Piece}
use Rattle.dart_scan.specs.FormLemmas.{begins-split}
use Rattle.tree_print.proofs.Plain.{run-within}

begins-length : (word text : List ℕ) → begins text word ≡ true → length word ≤ length text
begins-length word text e = omega (arith, ap length (begins-split word text e), length-append word (drop (length word) text))

unless-within : (b : Bool) (x n : ℕ) → x ≤ n → (if b then 0 else x) ≤ n
unless-within true x n h = omega arith
unless-within false x n h = h

when-within : (b : Bool) (x n : ℕ) → (b ≡ true → x ≤ n) → (if b then x else 0) ≤ n
when-within true x n h = h refl
when-within false x n h = omega arith

before-within : (p : ℕ → Bool) (ahead : ℕ) (text : List ℕ) → ahead ≤ length text → before_digits p ahead text ≤ length text
before-within p ahead text h =
    unless-within (run p (drop ahead text) == 0) (ahead + run p (drop ahead text)) (length text) (omega (arith, h, length-drop ahead text, run-within p (drop ahead text)))

either-long : (word other text : List ℕ) (n : ℕ) → n ≤ length word → n ≤ length other → (begins text word || begins text other) ≡ true → n ≤ length text
either-long word other text n h k e = of (begins text word) (begins text other) refl refl e
  where
    of : (s t : Bool) → begins text word ≡ s → begins text other ≡ t → (s || t) ≡ true → n ≤ length text
    of true t f g e = omega (arith, h, begins-length word text f)
    of false true f g e = omega (arith, k, begins-length other text g)
    of false false f g e = absurd (cc)

hexadecimal-within : (text : List ℕ) → hexadecimal_size text ≤ length text
hexadecimal-within text =
    when-within (begins text (codes "0x") || begins text (codes "0X")) (before_digits is_hexadecimal_digit 2 text) (length text)
    (λ e. before-within is_hexadecimal_digit 2 text (either-long (codes "0x") (codes "0X") text 2 (omega arith) (omega arith) e))

fraction-within : (text : List ℕ) → fraction_size text ≤ length text
fraction-within text = when-within (begins text (codes ".")) (before_digits is_digit 1 text) (length text) (λ e. before-within is_digit 1 text (begins-length (codes ".") text e))

sign-within : (text : List ℕ) → sign_size text ≤ length text
sign-within text = when-within (begins text (codes "+") || begins text (codes "-")) 1 (length text) (λ e. either-long (codes "+") (codes "-") text 1 (omega arith) (omega arith) e)

exponent-within : (text : List ℕ) → exponent_size text ≤ length text
exponent-within text =
    when-within (begins text (codes "e") || begins text (codes "E")) (before_digits is_digit (1 + sign_size (drop 1 text)) text) (length text)
    (λ e. before-within is_digit (1 + sign_size (drop 1 text)) text
    (omega (arith, either-long (codes "e") (codes "E") text 1 (omega arith) (omega arith) e, sign-within (drop 1 text), length-drop 1 text)))

double-within : (text : List ℕ) → double_size text ≤ length text
double-within text =
    let whole : ℕ = run is_digit text in
    let fraction : ℕ = fraction_size (drop whole text) in
    let exponent : ℕ = exponent_size (drop (whole + fraction) text) in
    unless-within (fraction == 0 && (whole == 0 || exponent == 0)) (whole + (fraction + exponent)) (length text)
    (omega (arith, run-within is_digit text, fraction-within (drop whole text), length-drop whole text, exponent-within (drop (whole + fraction) text), length-drop (whole + fraction) text))

among-within : (rows : List (List ℕ × Kind)) (text : List ℕ) → option_map_or (λ found. found.1) (first_among rows text) 0 ≤ length text
among-within [] text = omega arith
among-within (row ∷ rows) text = of (begins text row.0) refl (among-within rows text)
  where
    of : (s : Bool) → begins text row.0 ≡ s → option_map_or (λ found. found.1) (first_among rows text) 0 ≤ length text
        → option_map_or (λ found. found.1) (if s then Some (row.1, length row.0) else first_among rows text) 0 ≤ length text
    of true e h = begins-length row.0 text e
    of false e h = h

word-within : (text : List ℕ) → word_size text ≤ length text
word-within [] = omega arith
word-within (b ∷ text) = when-within (is_identifier_start b) (1 + run is_identifier_part text) (suc (length text)) (λ _. omega (arith, run-within is_identifier_part text))

longer-within : (a b : Piece) (n : ℕ) → a.size ≤ n → b.size ≤ n → (longer a b).size ≤ n
longer-within a b n h k = of (nat_lt a.size b.size)
  where
    of : (s : Bool) → (if s then b else a).size ≤ n
    of true = k
    of false = h

pub lexeme-within : (text : List ℕ) → 1 ≤ length text → (lexeme_at text).size ≤ length text
lexeme-within text some =
    longer-within (record { class = Word; size = word_size text }) _ (length text) (word-within text)
    (longer-within (record { class = Integer; size = integer_size text }) _ (length text) (omega (arith, run-within is_digit text, hexadecimal-within text))
    (longer-within (record { class = Double; size = double_size text }) _ (length text) (double-within text)
    (longer-within (record { class = Mark; size = mark_size text }) _ (length text) (among-within marks text)
    (longer-within (record { class = BeyondAscii; size = run is_beyond_ascii text }) (record { class = IllegalCharacter; size = 1 }) (length text) (run-within is_beyond_ascii text) some))))
