-- No lexeme with which a text begins is longer than the first of its pieces.
use Rattle.std.proofs.Common.{◌≡◌, ℕ, suc, ◌+◌, ◌≤◌, ◌==◌, ◌||◌, Bool, true, false, List, [], ◌∷◌, ◌++◌, length, take, drop, max, get_or, codes, nat_lt, if◌then◌else◌, Option, Some, None, refl, sym, ap, subst, ◌∙◌, arith, length-append, length-take}
use Rattle.std.specs.Prelude.{take_while}
use Rattle.std.specs.Option.{option_map_or}
use Rattle.std.specs.List.{list_all}
use Rattle.std.proofs.lemmas.Bool.{or_cases, eqb-true, ne_eqb}
use Rattle.std.proofs.lemmas.List.Sums.{take_while-cons}
use Rattle.std.proofs.Math.Logic.{⊎_elim}
use Rattle.dart_tokens.specs.declared.token.Kind.{Kind}
use Rattle.dart_tokens.specs.Marks.{marks}
use Rattle.dart_scan.specs.Characters.{is_blank, is_within_line, is_digit, is_hexadecimal_digit, is_identifier_start, is_identifier_part}
use Rattle.dart_scan.specs.Lexemes.{begins, run, word_size, hexadecimal_size, integer_size, double_size, mark_size}
use Rattle.dart_scan.specs.Strings.{Form, string_form}
use Rattle.dart_scan.specs.Pieces.{Spelled, Read, read_piece, pieces_within, string_at, next_at, piece_at, comment_piece, lexeme_at}
use Rattle.dart_scan.specs.declared.piece.Class.{Class}
use Rattle.dart_scan.specs.declared.piece.Class.TheVariants.{Gap}
use Rattle.dart_scan.specs.Suspended.{enough, pieces_behind}
use Rattle.dart_scan.specs.LexemeClasses.{IsLexeme, word, decimal, hexadecimal, upper_hexadecimal, fraction, fraction_exponent, whole_exponent, mark}
use Rattle.dart_scan.specs.FormLemmas.{begins-split}
use Rattle.dart_scan.specs.StringGrammar.{begins-front}
use Rattle.dart_scan.specs.DoubleLemmas.{run-front, fraction-front, fraction_exponent-front, whole_exponent-front}
use Rattle.dart_scan.specs.PieceLemmas.{piece_least}
use Rattle.dart_scan.specs.LawLemmas.{word-longest, integer-longest, double-longest, mark-longest, mark-of-marks}
use Rattle.dart_scan.specs.ResumeLemmas.{behind-step}

-- a lexeme of a text is no longer than one of the sizes
abbrev pub AtMost : (size : ℕ) → List ℕ → Type 0
AtMost size text = (word_size text ≤ size) × (integer_size text ≤ size) × (mark_size text ≤ size) × (double_size text ≤ size)

word-front : (first : ℕ) (parts rest : List ℕ) → is_identifier_start first ≡ true → list_all is_identifier_part parts ≡ true → length (first ∷ parts) ≤ word_size (first ∷ (parts ++ rest))
word-front first parts rest start all =
    let more = run-front is_identifier_part parts rest all in
    either (is_identifier_start first) start more
  where
    either : (b : Bool) → b ≡ true → length parts ≤ run is_identifier_part (parts ++ rest) → suc (length parts) ≤ (if b then 1 + run is_identifier_part (parts ++ rest) else 0)
    either true e h = omega (arith, h)
    either false e h = absurd (cc)

digits-front : (p : ℕ → Bool) (first : ℕ) (digits rest ahead : List ℕ) → list_all p (first ∷ digits) ≡ true → (found : Bool) → found ≡ true →
    suc (suc (length (first ∷ digits))) ≤ (if found then (if run p (first ∷ (digits ++ rest)) == 0 then 0 else 2 + run p (first ∷ (digits ++ rest))) else 0)
digits-front p first digits rest ahead all false e = absurd (cc)
digits-front p first digits rest ahead all true e =
    let long : length (first ∷ digits) ≤ run p (first ∷ (digits ++ rest)) = run-front p (first ∷ digits) rest all in
    let some : (run p (first ∷ (digits ++ rest)) == 0) ≡ false = ne_eqb (run p (first ∷ (digits ++ rest))) 0 (λ none. omega (arith, none, long)) in
    either (run p (first ∷ (digits ++ rest)) == 0) some long
  where
    either : (b : Bool) → b ≡ false → length (first ∷ digits) ≤ run p (first ∷ (digits ++ rest)) → suc (suc (length (first ∷ digits))) ≤ (if b then 0 else 2 + run p (first ∷ (digits ++ rest)))
    either true e h = absurd (cc)
    either false e h = omega (arith, h)

max-first : (a b n : ℕ) → n ≤ a → n ≤ max a b
max-first a b n h = omega (arith, h)

max-second : (a b n : ℕ) → n ≤ b → n ≤ max a b
max-second a b n h = omega (arith, h)

-- a lexeme of the language has one of the sizes at most
pub lexeme-front : (class : Class) (bytes rest : List ℕ) (size : ℕ) → IsLexeme class bytes → AtMost size (bytes ++ rest) → length bytes ≤ size
lexeme-front class bytes rest size (word first {parts = parts} start all) most = let h = word-front first parts rest start all in omega (arith, h, most.0)
lexeme-front class bytes rest size (decimal first {digits = digits} all) most =
    let text : List ℕ = first ∷ (digits ++ rest) in
    let h : length (first ∷ digits) ≤ integer_size text = max-first (run is_digit text) (hexadecimal_size text) (length (first ∷ digits)) (run-front is_digit (first ∷ digits) rest all) in
    omega (arith, h, most.1)
lexeme-front class bytes rest size (hexadecimal first {digits = digits} all) most =
    let text : List ℕ = codes "0x" ++ (first ∷ (digits ++ rest)) in
    let h : length (codes "0x" ++ (first ∷ digits)) ≤ integer_size text =
    max-second (run is_digit text) (hexadecimal_size text) (length (codes "0x" ++ (first ∷ digits))) (digits-front is_hexadecimal_digit first digits rest (codes "0x") all true refl) in
    omega (arith, h, most.1)
lexeme-front class bytes rest size (upper_hexadecimal first {digits = digits} all) most =
    let text : List ℕ = codes "0X" ++ (first ∷ (digits ++ rest)) in
    let h : length (codes "0X" ++ (first ∷ digits)) ≤ integer_size text =
    max-second (run is_digit text) (hexadecimal_size text) (length (codes "0X" ++ (first ∷ digits))) (digits-front is_hexadecimal_digit first digits rest (codes "0X") all true refl) in
    omega (arith, h, most.1)
lexeme-front class bytes rest size (fraction whole first digits wholes all) most = let h = fraction-front whole first digits rest wholes all in omega (arith, h, most.3)
lexeme-front class bytes rest size (fraction_exponent whole first digits exponent wholes all is) most = let h = fraction_exponent-front whole first digits exponent rest wholes all is in omega (arith, h, most.3)
lexeme-front class bytes rest size (whole_exponent first digits exponent all is) most = let h = whole_exponent-front first digits exponent rest all is in omega (arith, h, most.3)
lexeme-front class bytes rest size (mark row among) most =
    let longest : length (get_or marks among.0 row).0 ≤ mark_size (row.0 ++ rest) =
    mark-of-marks (row.0 ++ rest) among.0 row among.1 (subst (λ (r : List ℕ × Kind). begins (row.0 ++ rest) r.0 ≡ true) (sym among.2) (begins-front row.0 rest)) in
    let same : length (get_or marks among.0 row).0 ≡ length row.0 = ap (λ (r : List ℕ × Kind). length r.0) among.2 in
    omega (arith, longest, same, most.2)

-- Where a gap stands first, lexemes have one byte at most.

none : 0 ≤ 1
none = omega arith

one : 1 ≤ 1
one = omega arith

blank-none : (first : ℕ) (text : List ℕ) → is_blank first ≡ true → AtMost 1 (first ∷ text)
blank-none first text h = ⊎_elim
    (λ (a : (first == 32 || first == 9) ≡ true). ⊎_elim (λ (e : (first == 32) ≡ true). at 32 (eqb-true first 32 e) (none, none, none, none)) (λ (e : (first == 9) ≡ true). at 9 (eqb-true first 9 e) (none, none, none, none)) (or_cases (first == 32) (first == 9) a))
    (λ (a : (first == 10 || first == 13) ≡ true). ⊎_elim (λ (e : (first == 10) ≡ true). at 10 (eqb-true first 10 e) (none, none, none, none)) (λ (e : (first == 13) ≡ true). at 13 (eqb-true first 13 e) (none, none, none, none)) (or_cases (first == 10) (first == 13) a))
    (or_cases (first == 32 || first == 9) (first == 10 || first == 13) h)
  where
    at : (byte : ℕ) → first ≡ byte → AtMost 1 (byte ∷ text) → AtMost 1 (first ∷ text)
    at byte e m = subst (λ (b : ℕ). AtMost 1 (b ∷ text)) (sym e) m

slash-one : (second : ℕ) (text : List ℕ) → AtMost 1 (47 ∷ 47 ∷ text) × AtMost 1 (47 ∷ 42 ∷ text)
slash-one second text = ((none, none, one, none), (none, none, one, none))

blank-first : (first : ℕ) (text : List ℕ) → nat_lt 0 (run is_blank (first ∷ text)) ≡ true → is_blank first ≡ true
blank-first first text h = of (is_blank first) refl (sym (ap (λ (xs : List ℕ). nat_lt 0 (length xs)) (take_while-cons is_blank first text)) ∙ h)
  where
    of : (b : Bool) → is_blank first ≡ b → nat_lt 0 (length (if b then first ∷ take_while is_blank text else [])) ≡ true → is_blank first ≡ true
    of true e h = e
    of false e h = absurd (cc)

at-most-more : (size : ℕ) (text : List ℕ) → 1 ≤ size → AtMost 1 text → AtMost size text
at-most-more size text h m = (omega (arith, h, m.0), omega (arith, h, m.1), omega (arith, h, m.2), omega (arith, h, m.3))

longest-piece : (first : ℕ) (text : List ℕ) → AtMost (piece_at false (first ∷ text)).size (first ∷ text)
longest-piece first text = of (nat_lt 0 (run is_blank (first ∷ text))) (begins (first ∷ text) (codes "//")) (begins (first ∷ text) (codes "/*")) refl refl refl (piece_least false (first ∷ text) (omega arith))
  where
    split : (opening : List ℕ) → begins (first ∷ text) opening ≡ true → AtMost 1 (opening ++ drop (length opening) (first ∷ text)) → AtMost 1 (first ∷ text)
    split opening e m = subst (λ (t : List ℕ). AtMost 1 t) (sym (begins-split opening (first ∷ text) e)) m

    of : (blank line block : Bool) → nat_lt 0 (run is_blank (first ∷ text)) ≡ blank → begins (first ∷ text) (codes "//") ≡ line → begins (first ∷ text) (codes "/*") ≡ block →
        (let size = (if blank then (record { class = Gap; size = run is_blank (first ∷ text) }) else (if line then (record { class = Gap; size = 2 + run is_within_line (drop 2 (first ∷ text)) }) else (if block then comment_piece (first ∷ text) else lexeme_at (first ∷ text)))).size in
        1 ≤ size → AtMost size (first ∷ text))
    of true line block b l c = λ least. at-most-more _ (first ∷ text) least (blank-none first text (blank-first first text b))
    of false true block b l c = λ least. at-most-more _ (first ∷ text) least (split (codes "//") l (slash-one 0 (drop 2 (first ∷ text))).0)
    of false false true b l c = λ least. at-most-more _ (first ∷ text) least (split (codes "/*") c (slash-one 0 (drop 2 (first ∷ text))).1)
    of false false false b l c = λ least. (word-longest (first ∷ text), integer-longest (first ∷ text), mark-longest (first ∷ text), double-longest (first ∷ text))

-- Of the pieces of a text.

pub none-begins : (text : List ℕ) (o : Option Form) → o ≡ None → option_map_or (λ form. string_at enough form text) o (read_piece false text) ≡ read_piece false text
none-begins text None e = refl
none-begins text (Some form) e = absurd (cc)

pub longest : (text bytes : List ℕ) (class : Class) (rest : List ℕ) (piece : Spelled) (more : List Spelled) → string_form text ≡ None → text ≡ bytes ++ rest → IsLexeme class bytes → pieces_behind text ≡ piece ∷ more → length bytes ≤ length piece.1
unfolding pieces_within
longest [] bytes class rest piece more unbegun split is e = absurd (cc)
longest (first ∷ text) bytes class rest piece more unbegun split is e =
    let size : ℕ = (piece_at false (first ∷ text)).size in
    let read : next_at enough false (first ∷ text) ≡ read_piece false (first ∷ text) = none-begins (first ∷ text) (string_form (first ∷ text)) unbegun in
    let all = sym (behind-step first text ∙ ap (λ (r : Read). r.pieces ++ pieces_behind r.rest) read) ∙ e in
    let here : length (take size (first ∷ text)) ≡ length piece.1 = ap (λ (p : Spelled). length p.1) (head_same _ _ _ _ all) in
    let short : length bytes ≤ size = lexeme-front class bytes rest size is (subst (AtMost size) split (longest-piece first text)) in
    omega (arith, here, short, length-take size (first ∷ text), ap length split, length-append bytes rest)
  where
    head_same : (p q : Spelled) (ps qs : List Spelled) → p ∷ ps ≡ q ∷ qs → p ≡ q
    head_same p q ps qs h = cc
