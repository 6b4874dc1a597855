-- The first piece of a text in UTF-8 is a text, and so is the rest.
use Rattle.std.proofs.Common.{◌≡◌, ℕ, zero, suc, ◌+◌, ◌-◌, ◌<◌, ◌≤◌, ◌==◌, Bool, true, false, ◌&&◌, ◌||◌, List, [], ◌∷◌, length, take, drop, get_or, max, nat_lt, codes, Option, Some, None, option_map, if◌then◌else◌, refl, sym, ap, ◌∙◌, subst, arith, inl, inr, length-drop}
use lib.Utf8.{encode}
use Rattle.std.specs.List.{list_all}
use Rattle.std.specs.Option.{option_map_or}
use Rattle.std.specs.Str.{IsUtf8}
use Rattle.std.proofs.lemmas.Bool.{false≢true, cond_both, and_parts, or_cases, cases_lt, eqb-true, ltb-true, leb-false}
use Rattle.std.proofs.lemmas.List.{get_or-drop}
use Rattle.std.proofs.lemmas.Str.{IsUtf8-drop, IsCharBoundary-after_ascii, IsCharBoundary-from_take}
use Rattle.dart_tokens.specs.declared.token.Kind.{Kind}
use Rattle.dart_tokens.specs.Marks.{marks, first_among}
use Rattle.dart_scan.specs.Characters.{is_digit, is_hexadecimal_digit, is_identifier_start, is_identifier_part, is_blank, is_within_line, is_beyond_ascii}
use Rattle.dart_scan.specs.Lexemes.{begins, run, word_size, before_digits, hexadecimal_size, integer_size, fraction_size, sign_size, exponent_size, double_size, mark_size}
use Rattle.dart_scan.specs.Comments.{comment_end}
use Rattle.dart_scan.specs.Pieces.{comment_piece, longer, lexeme_at, piece_at}
use Rattle.dart_scan.specs.declared.piece.Class.TheVariants.{Gap, UnterminatedComment, IllegalCharacter, BeyondAscii, Word, Integer, Double, Mark}
use Rattle.dart_scan.specs.declared.piece.Piece.{Piece}
use Rattle.dart_scan.specs.Utf8Lemmas.{IsTextFrom, past_end, before_ascii, after_first, behind_both, chosen, IsAsciiClass, run-text, run-stops, all_ascii, begins-text, digits_are_ascii, hexadecimal_digits_are_ascii, starts_are_ascii, parts_are_ascii, blanks_are_ascii, newlines_are_ascii}

-- a start of a class and the parts that follow
pub named-text : (start part : ℕ → Bool) → IsAsciiClass start → IsAsciiClass part → (byte : ℕ) (text : List ℕ) → IsUtf8 (byte ∷ text) → IsTextFrom (if start byte then 1 + run part text else 0) (byte ∷ text)
named-text start part starts parts byte text u =
    chosen (start byte) (1 + run part text) 0 (byte ∷ text)
    (λ h. behind_both 1 (run part text) (byte ∷ text) (run-text part parts text (after_first byte text (starts byte h) u))) (λ h. u)

word-text : (text : List ℕ) → IsUtf8 text → IsTextFrom (word_size text) text
word-text [] u = u
word-text (byte ∷ text) u = named-text is_identifier_start is_identifier_part starts_are_ascii parts_are_ascii byte text u

before_digits-text : (class : ℕ → Bool) → IsAsciiClass class → (ahead : ℕ) (text : List ℕ) → IsUtf8 text → IsTextFrom ahead text → IsTextFrom (before_digits class ahead text) text
before_digits-text class ascii ahead text u v =
    let digits = run class (drop ahead text) in
    chosen (digits == 0) 0 (ahead + digits) text (λ h. u) (λ h. behind_both ahead digits text (run-text class ascii (drop ahead text) v))

-- a mark of one sort or another, of so many bytes
either-text : (a b : List ℕ) (n : ℕ) (text : List ℕ) → all_ascii a ≡ true → all_ascii b ≡ true → length a ≡ n → length b ≡ n → IsUtf8 text → (begins text a || begins text b) ≡ true → IsTextFrom n text
either-text a b n text p q m k u h =
    let P : ℕ → Type 0 = λ size. IsTextFrom size text in
    elim (or_cases _ _ h) [ inl x ↦ subst P m (begins-text a text p x u) | inr y ↦ subst P k (begins-text b text q y u) ]

hexadecimal-text : (text : List ℕ) → IsUtf8 text → IsTextFrom (hexadecimal_size text) text
hexadecimal-text text u =
    chosen (begins text (codes "0x") || begins text (codes "0X")) (before_digits is_hexadecimal_digit 2 text) 0 text
    (λ h. before_digits-text is_hexadecimal_digit hexadecimal_digits_are_ascii 2 text u (either-text (codes "0x") (codes "0X") 2 text refl refl refl refl u h)) (λ h. u)

max-text : (m n : ℕ) (text : List ℕ) → IsTextFrom m text → IsTextFrom n text → IsTextFrom (max m n) text
max-text m n text h k =
    let P : ℕ → Type 0 = λ size. IsTextFrom size text in
    elim (cases_lt m n) [ inl less ↦ (let e : n ≡ max m n = omega arith in subst P e k) | inr more ↦ (let e : m ≡ max m n = omega arith in subst P e h) ]

integer-text : (text : List ℕ) → IsUtf8 text → IsTextFrom (integer_size text) text
integer-text text u = max-text (run is_digit text) (hexadecimal_size text) text (run-text is_digit digits_are_ascii text u) (hexadecimal-text text u)

fraction-text : (text : List ℕ) → IsUtf8 text → IsTextFrom (fraction_size text) text
fraction-text text u =
    chosen (begins text (codes ".")) (before_digits is_digit 1 text) 0 text
    (λ h. before_digits-text is_digit digits_are_ascii 1 text u (begins-text (codes ".") text refl h u)) (λ h. u)

sign-text : (text : List ℕ) → IsUtf8 text → IsTextFrom (sign_size text) text
sign-text text u = chosen (begins text (codes "+") || begins text (codes "-")) 1 0 text (either-text (codes "+") (codes "-") 1 text refl refl refl refl u) (λ h. u)

exponent-text : (text : List ℕ) → IsUtf8 text → IsTextFrom (exponent_size text) text
exponent-text text u =
    chosen (begins text (codes "e") || begins text (codes "E")) (before_digits is_digit (1 + sign_size (drop 1 text)) text) 0 text
    (λ h. before_digits-text is_digit digits_are_ascii (1 + sign_size (drop 1 text)) text u
    (behind_both 1 (sign_size (drop 1 text)) text (sign-text (drop 1 text) (either-text (codes "e") (codes "E") 1 text refl refl refl refl u h)))) (λ h. u)

double-text : (text : List ℕ) → IsUtf8 text → IsTextFrom (double_size text) text
double-text text u =
    let whole = run is_digit text in
    let fraction = fraction_size (drop whole text) in
    let exponent = exponent_size (drop (whole + fraction) text) in
    let behind_whole : IsUtf8 (drop whole text) = run-text is_digit digits_are_ascii text u in
    let behind_fraction : IsUtf8 (drop (whole + fraction) text) = behind_both whole fraction text (fraction-text (drop whole text) behind_whole) in
    let P : ℕ → Type 0 = λ size. IsTextFrom size text in
    let sum : (whole + fraction) + exponent ≡ whole + (fraction + exponent) = omega arith in
    chosen (fraction == 0 && (whole == 0 || exponent == 0)) 0 (whole + (fraction + exponent)) text (λ h. u)
    (λ h. subst P sum (behind_both (whole + fraction) exponent text (exponent-text (drop (whole + fraction) text) behind_fraction)))

first-text : (table : List (List ℕ × Kind)) (text : List ℕ) → list_all (λ row. all_ascii row.0) table ≡ true → IsUtf8 text → IsTextFrom (option_map_or (λ found. found.1) (first_among table text) 0) text
first-text [] text a u = u
first-text (mark ∷ more) text a u =
    let ascii = and_parts _ _ a in
    cond_both (begins text mark.0) (Some (mark.1, length mark.0)) (first_among more text) (λ found. IsTextFrom (option_map_or (λ mark. mark.1) found 0) text)
    (λ h. begins-text mark.0 text ascii.0 h u) (λ _. first-text more text ascii.1 u)

mark-text : (text : List ℕ) → IsUtf8 text → IsTextFrom (mark_size text) text
mark-text text u = first-text marks text refl u

-- what isn't beyond ASCII is ASCII
stops_beyond : (byte : ℕ) → is_beyond_ascii byte ≡ false → byte < 128
stops_beyond byte h = leb-false _ _ h

beyond-text : (text : List ℕ) → IsUtf8 text → IsTextFrom (run is_beyond_ascii text) text
beyond-text text u = before_ascii (run is_beyond_ascii text) text u (λ h. stops_beyond _ (run-stops is_beyond_ascii text h))

longer-text : (a b : Piece) (text : List ℕ) → (a.size < b.size → IsTextFrom b.size text) → IsTextFrom a.size text → IsTextFrom (longer a b).size text
longer-text a b text h k = cond_both (nat_lt a.size b.size) b a (λ piece. IsTextFrom piece.size text) (λ e. h (ltb-true _ _ e)) (λ e. k)

-- one character, which isn't beyond ASCII
illegal-text : (text : List ℕ) → IsUtf8 text → run is_beyond_ascii text < 1 → IsTextFrom 1 text
illegal-text [] u h = u
illegal-text (byte ∷ text) u h =
    let none : run is_beyond_ascii (byte ∷ text) ≡ 0 = omega arith in
    let P : ℕ → Type 0 = λ n. is_beyond_ascii (get_or (byte ∷ text) n 0) ≡ false in
    let low : is_beyond_ascii byte ≡ false = subst P none (run-stops is_beyond_ascii (byte ∷ text) (omega arith)) in
    after_first byte text (stops_beyond byte low) u

lexeme-text : (text : List ℕ) → IsUtf8 text → IsTextFrom (lexeme_at text).size text
lexeme-text text u =
    let beyond : Piece = record { class = BeyondAscii; size = run is_beyond_ascii text } in
    let illegal : Piece = record { class = IllegalCharacter; size = 1 } in
    let unknown : IsTextFrom (longer beyond illegal).size text = longer-text beyond illegal text (illegal-text text u) (beyond-text text u) in
    longer-text (record { class = Word; size = word_size text }) _ text
    (λ _. longer-text (record { class = Integer; size = integer_size text }) _ text
    (λ _. longer-text (record { class = Double; size = double_size text }) _ text
    (λ _. longer-text (record { class = Mark; size = mark_size text }) (longer beyond illegal) text (λ _. unknown) (mark-text text u)) (double-text text u)) (integer-text text u)) (word-text text u)

-- where a comment ends: behind a `/`
abbrev EndsBehindSlash : ℕ → List ℕ → Type 0
EndsBehindSlash n text = (2 ≤ n) × (n ≤ length text) × (get_or text (n - 1) 0 ≡ 47)

abbrev IfEnds : Option ℕ → List ℕ → Type 0
IfEnds None text = Unit {0}
IfEnds (Some n) text = EndsBehindSlash n text

ends_further : (a : ℕ) (o : Option ℕ) (text : List ℕ) → IfEnds o (drop a text) → IfEnds (option_map (λ n. a + n) o) text
ends_further a None text h = tt
ends_further a (Some n) text h =
    let place : a + (n - 1) ≡ (a + n) - 1 = omega (arith, h.0) in
    (omega (arith, h.0), omega (arith, h.0, h.1, length-drop a text), ap (λ i. get_or text i 0) (sym place) ∙ sym (get_or-drop a text (n - 1) 0) ∙ h.2)

closes-here : (text : List ℕ) → begins text (codes "*/") ≡ true → EndsBehindSlash 2 text
closes-here [] h = absurd (false≢true h)
closes-here (star ∷ []) h = absurd (false≢true ((and_parts _ _ h).1))
closes-here (star ∷ slash ∷ text) h =
    let e : 47 ≡ slash = eqb-true _ _ (and_parts _ _ (and_parts _ _ h).1).0 in (omega arith, omega arith, sym e)

comment_end-slash : (steps inner : ℕ) (text : List ℕ) → IfEnds (comment_end steps inner text) text
unfolding comment_end
comment_end-slash zero inner text = tt
comment_end-slash (suc steps) inner text =
    cond_both (begins text (codes "*/")) _ _ (λ o. IfEnds o text)
    (λ h. cond_both (inner == 0) _ _ (λ o. IfEnds o text) (λ _. closes-here text h) (λ _. ends_further 2 _ text (comment_end-slash steps (inner - 1) (drop 2 text))))
    (λ _. cond_both (begins text (codes "/*")) _ _ (λ o. IfEnds o text)
    (λ _. ends_further 2 _ text (comment_end-slash steps (inner + 1) (drop 2 text))) (λ _. ends_further 1 _ text (comment_end-slash steps inner (drop 1 text))))

behind_slash : (n : ℕ) (text : List ℕ) → IsUtf8 text → EndsBehindSlash n text → IsTextFrom n text
behind_slash n text u h =
    let P : ℕ → Type 0 = λ size. IsTextFrom size text in
    let e : (n - 1) + 1 ≡ n = omega (arith, h.0) in
    subst P e (IsUtf8-drop text ((n - 1) + 1) u (IsCharBoundary-after_ascii text (n - 1) u (omega (arith, h.0, h.1)) (omega (arith, h.2))))

comment-case : (o : Option ℕ) (text : List ℕ) → IsUtf8 text → IsUtf8 (drop 2 text) → IfEnds o (drop 2 text)
    → IsTextFrom (option_map_or {U = Piece} (λ size. record { class = Gap; size = size }) (option_map (λ n. 2 + n) o) (record { class = UnterminatedComment; size = length text })).size text
comment-case None text u v h = past_end (length text) text (omega arith)
comment-case (Some n) text u v h = behind_both 2 n text (behind_slash n (drop 2 text) v h)

comment-text : (text : List ℕ) → IsUtf8 text → begins text (codes "/*") ≡ true → IsTextFrom (comment_piece text).size text
comment-text text u h =
    comment-case (comment_end (length (drop 2 text)) 0 (drop 2 text)) text u (begins-text (codes "/*") text refl h u) (comment_end-slash (length (drop 2 text)) 0 (drop 2 text))

-- a line ends at ASCII
pub line-text : (text : List ℕ) → IsUtf8 text → IsTextFrom (run is_within_line text) text
line-text text u = before_ascii (run is_within_line text) text u (λ h. newlines_are_ascii _ (run-stops is_within_line text h))

-- a byte order mark is a character
order_mark : IsUtf8 (239 ∷ 187 ∷ 191 ∷ [])
unfolding encode
order_mark = (0xFEFF ∷ [], (refl, refl))

begins_order_mark : (text : List ℕ) → begins text (239 ∷ 187 ∷ 191 ∷ []) ≡ true → (3 ≤ length text) × (239 ∷ 187 ∷ 191 ∷ [] ≡ take 3 text)
begins_order_mark [] h = absurd (false≢true h)
begins_order_mark (a ∷ []) h = absurd (false≢true ((and_parts _ _ h).1))
begins_order_mark (a ∷ b ∷ []) h = absurd (false≢true ((and_parts _ _ (and_parts _ _ h).1).1))
begins_order_mark (a ∷ b ∷ c ∷ text) h =
    let first = and_parts _ _ h in
    let second = and_parts _ _ first.1 in
    let third = and_parts _ _ second.1 in
    let p : 239 ≡ a = eqb-true _ _ first.0 in
    let q : 187 ≡ b = eqb-true _ _ second.0 in
    let r : 191 ≡ c = eqb-true _ _ third.0 in
    (omega arith, cc)

order_mark-text : (text : List ℕ) → IsUtf8 text → begins text (239 ∷ 187 ∷ 191 ∷ []) ≡ true → IsTextFrom 3 text
order_mark-text text u h =
    let b = begins_order_mark text h in
    let P : List ℕ → Type 0 = IsUtf8 in
    IsUtf8-drop text 3 u (IsCharBoundary-from_take text 3 u b.0 (subst P b.1 order_mark))

-- the first piece ends where a character ends
pub piece-text : (first : Bool) (text : List ℕ) → IsUtf8 text → IsTextFrom (piece_at first text).size text
piece-text first text u =
    let P : Piece → Type 0 = λ piece. IsTextFrom piece.size text in
    cond_both (first && begins text (239 ∷ 187 ∷ 191 ∷ [])) _ _ P (λ h. order_mark-text text u (and_parts _ _ h).1)
    (λ _. cond_both (nat_lt 0 (run is_blank text)) _ _ P (λ _. run-text is_blank blanks_are_ascii text u)
    (λ _. cond_both (begins text (codes "//")) _ _ P
    (λ h. behind_both 2 (run is_within_line (drop 2 text)) text (line-text (drop 2 text) (begins-text (codes "//") text refl h u)))
    (λ _. cond_both (begins text (codes "/*")) _ _ P (comment-text text u) (λ _. lexeme-text text u))))
