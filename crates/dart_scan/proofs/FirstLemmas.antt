-- The first piece of a text is of its class.
use Rattle.std.proofs.Common.{◌≡◌, ◌⊎◌, inl, inr, ℕ, zero, suc, ◌+◌, ◌<◌, ◌≤◌, ◌==◌, ◌||◌, Bool, true, false, List, [], ◌∷◌, ◌++◌, length, take, drop, max, get_or, codes, nat_lt, nat_le, if◌then◌else◌, Option, Some, None, refl, sym, ap, subst, ◌∙◌, arith, append_assoc, length-append}
use Rattle.std.specs.Prelude.{take_while, Contains, IfSome}
use Rattle.std.specs.List.{list_all}
use Rattle.std.specs.Option.{option_map_or}
use Rattle.std.proofs.lemmas.Bool.{ne_eqb, and_from, and_parts, ltb-true, ltb-false, leb-true, leb-false}
use Rattle.std.proofs.lemmas.List.{take_at, drop_at, take-append-drop}
use Rattle.std.proofs.lemmas.List.Sums.{take_while-cons}
use Rattle.std.proofs.Math.Logic.{⊎_elim}
use Rattle.dart_tokens.specs.declared.token.Kind.{Kind}
use Rattle.dart_tokens.specs.Marks.{marks, first_mark}
use Rattle.dart_tokens.specs.MarkLemmas.{found_among}
use Rattle.dart_scan.specs.declared.piece.Piece.{Piece}
use Rattle.dart_scan.specs.declared.piece.Class.{Class}
use Rattle.dart_scan.specs.declared.piece.Class.TheVariants.{Gap, UnterminatedComment, IllegalCharacter, BeyondAscii, Word, Integer, Double, Mark}
use Rattle.dart_scan.specs.Characters.{is_blank, is_within_line, is_beyond_ascii, is_digit, is_hexadecimal_digit, is_identifier_start, is_identifier_part}
use Rattle.dart_scan.specs.Lexemes.{begins, run, before_digits, word_size, hexadecimal_size, integer_size, fraction_size, sign_size, exponent_size, double_size, mark_size}
use Rattle.dart_scan.specs.Comments.{IsComment, comment_size}
use Rattle.dart_scan.specs.Strings.{string_form}
use Rattle.dart_scan.specs.Pieces.{Spelled, Read, read_piece, pieces_within, next_at, piece_at, comment_piece, lexeme_at, longer}
use Rattle.dart_scan.specs.Suspended.{enough, pieces_behind}
use Rattle.dart_scan.specs.LexemeClasses.{is_exponent_letter, is_sign, IsExponent, unsigned, signed, IsLexeme, word, decimal, hexadecimal, upper_hexadecimal, fraction, fraction_exponent, whole_exponent, mark, IsFirstPiece, lexeme, white_space, line_comment, block_comment, endless_comment, beyond_ascii, no_lexeme}
use Rattle.dart_scan.specs.FormLemmas.{begins-split, front-split, append-nothing}
use Rattle.dart_scan.proofs.CommentLaws.{sound, comment-size}
use Rattle.dart_scan.specs.DoubleLemmas.{whole_size, with-fraction, with-exponent}
use Rattle.dart_scan.specs.LongestLemmas.{AtMost, lexeme-front, none-begins}
use Rattle.dart_scan.specs.ResumeLemmas.{behind-step}

-- Runs of bytes of a class.

front-all : (p : ℕ → Bool) (text : List ℕ) → list_all p (take_while p text) ≡ true
front-all p [] = refl
front-all p (b ∷ text) = rw (take_while-cons p b text) (chosen (p b) refl (front-all p text))
  where
    chosen : (s : Bool) → p b ≡ s → list_all p (take_while p text) ≡ true → list_all p (if s then b ∷ take_while p text else []) ≡ true
    chosen true e h = and_from (p b) (list_all p (take_while p text)) e h
    chosen false e h = refl

front-stops : (p : ℕ → Bool) (text : List ℕ) → run p (drop (run p text) text) ≡ 0
front-stops p [] = refl
front-stops p (b ∷ text) = subst (λ (front : List ℕ). run p (drop (length front) (b ∷ text)) ≡ 0) (sym (take_while-cons p b text)) (chosen (p b) refl (front-stops p text))
  where
    chosen : (s : Bool) → p b ≡ s → run p (drop (run p text) text) ≡ 0 → run p (drop (length (if s then b ∷ take_while p text else [])) (b ∷ text)) ≡ 0
    chosen true e h = h
    chosen false e h = ap length (take_while-cons p b text) ∙ ap (λ (s : Bool). length (if s then b ∷ take_while p text else [])) e

-- a run of bytes with which a text begins, and what stands behind it
record Ran (p : ℕ → Bool) (text : List ℕ) : Type 0 where
  pub first : ℕ
  pub more : List ℕ
  pub rest : List ℕ
  pub split : text ≡ (first ∷ more) ++ rest
  pub size : run p text ≡ length (first ∷ more)
  pub all : list_all p (first ∷ more) ≡ true
  pub stops : run p rest ≡ 0

ran : (p : ℕ → Bool) (text : List ℕ) → 1 ≤ run p text → Ran p text
ran p text some = of (take_while p text) refl
  where
    of : (front : List ℕ) → take_while p text ≡ front → Ran p text
    of [] e = absurd (omega (arith, some, ap length e))
    of (first ∷ more) e = record {
      first = first;
      more = more;
      rest = drop (run p text) text;
      split = sym (front-split p text) ∙ ap (λ (bytes : List ℕ). bytes ++ drop (run p text) text) e;
      size = ap length e;
      all = subst (λ (bytes : List ℕ). list_all p bytes ≡ true) e (front-all p text);
      stops = front-stops p text;
    }

-- digits behind so many bytes
before-of : (ahead n : ℕ) → 1 ≤ (if n == 0 then 0 else ahead + n) → (1 ≤ n) × ((if n == 0 then 0 else ahead + n) ≡ ahead + n)
before-of ahead zero h = absurd (omega (arith, h))
before-of ahead (suc n) h = of (suc n == 0) (ne_eqb (suc n) 0 (λ none. omega (arith, none)))
  where
    of : (b : Bool) → b ≡ false → (1 ≤ suc n) × ((if b then 0 else ahead + suc n) ≡ ahead + suc n)
    of true e = absurd (cc)
    of false e = (omega arith, refl)

-- Lexemes of each class.

-- a lexeme of so many bytes with which a text begins
record Front (class : Class) (text : List ℕ) (size : ℕ) : Type 0 where
  pub bytes : List ℕ
  pub rest : List ℕ
  pub split : text ≡ bytes ++ rest
  pub same : size ≡ length bytes
  pub is : IsLexeme class bytes

word-is : (text : List ℕ) → 1 ≤ word_size text → Front Word text (word_size text)
word-is [] some = absurd (omega (arith, some))
word-is (first ∷ text) some = of (is_identifier_start first) refl some
  where
    of : (b : Bool) → is_identifier_start first ≡ b → 1 ≤ (if b then 1 + run is_identifier_part text else 0) → Front Word (first ∷ text) (if b then 1 + run is_identifier_part text else 0)
    of true e some = record {
      bytes = first ∷ take_while is_identifier_part text;
      rest = drop (run is_identifier_part text) text;
      split = ap (λ (more : List ℕ). first ∷ more) (sym (front-split is_identifier_part text));
      same = omega arith;
      is = word first e (front-all is_identifier_part text);
    }
    of false e some = absurd (omega (arith, some))

decimal-is : (text : List ℕ) → 1 ≤ run is_digit text → Front Integer text (run is_digit text)
decimal-is text some =
    let r : Ran is_digit text = ran is_digit text some in
    record { bytes = r.first ∷ r.more; rest = r.rest; split = r.split; same = r.size; is = decimal r.first r.all }

hexadecimal-is : (text : List ℕ) → 1 ≤ hexadecimal_size text → Front Integer text (hexadecimal_size text)
hexadecimal-is text = of (begins text (codes "0x")) (begins text (codes "0X")) refl refl
  where
    of : (lower upper : Bool) → begins text (codes "0x") ≡ lower → begins text (codes "0X") ≡ upper → 1 ≤ (if lower || upper then before_digits is_hexadecimal_digit 2 text else 0)
        → Front Integer text (if lower || upper then before_digits is_hexadecimal_digit 2 text else 0)
    of true upper l u some =
        let parts = before-of 2 (run is_hexadecimal_digit (drop 2 text)) some in
        let r : Ran is_hexadecimal_digit (drop 2 text) = ran is_hexadecimal_digit (drop 2 text) parts.0 in
        record {
          bytes = codes "0x" ++ (r.first ∷ r.more);
          rest = r.rest;
          split = begins-split (codes "0x") text l ∙ ap (λ (more : List ℕ). codes "0x" ++ more) r.split;
          same = omega (arith, parts.1, r.size);
          is = hexadecimal r.first r.all;
        }
    of false true l u some =
        let parts = before-of 2 (run is_hexadecimal_digit (drop 2 text)) some in
        let r : Ran is_hexadecimal_digit (drop 2 text) = ran is_hexadecimal_digit (drop 2 text) parts.0 in
        record {
          bytes = codes "0X" ++ (r.first ∷ r.more);
          rest = r.rest;
          split = begins-split (codes "0X") text u ∙ ap (λ (more : List ℕ). codes "0X" ++ more) r.split;
          same = omega (arith, parts.1, r.size);
          is = upper_hexadecimal r.first r.all;
        }
    of false false l u some = absurd (omega (arith, some))

max-is : (a b : ℕ) → (max a b ≡ a) ⊎ (max a b ≡ b)
max-is a b = of (nat_le b a) refl
  where
    of : (t : Bool) → nat_le b a ≡ t → (max a b ≡ a) ⊎ (max a b ≡ b)
    of true e = inl (omega (arith, leb-true b a e))
    of false e = inr (omega (arith, leb-false b a e))

integer-is : (text : List ℕ) → 1 ≤ integer_size text → Front Integer text (integer_size text)
integer-is text some = ⊎_elim
    (λ (e : integer_size text ≡ run is_digit text). subst (λ (n : ℕ). Front Integer text n) (sym e) (decimal-is text (omega (arith, some, e))))
    (λ (e : integer_size text ≡ hexadecimal_size text). subst (λ (n : ℕ). Front Integer text n) (sym e) (hexadecimal-is text (omega (arith, some, e))))
    (max-is (run is_digit text) (hexadecimal_size text))

mark-is : (text : List ℕ) → 1 ≤ mark_size text → IsLexeme Mark (take (mark_size text) text)
mark-is text = of (first_mark text) (found_among marks text)
  where
    of : (o : Option (Kind × ℕ)) → IfSome o (λ found. Contains marks (take found.1 text, found.0)) → 1 ≤ option_map_or (λ found. found.1) o 0 → IsLexeme Mark (take (option_map_or (λ found. found.1) o 0) text)
    of None h some = absurd (omega (arith, some))
    of (Some found) h some = mark (take found.1 text, found.0) h

-- Doubles.

record Fraction (text : List ℕ) (size : ℕ) : Type 0 where
  pub first : ℕ
  pub digits : List ℕ
  pub rest : List ℕ
  pub split : text ≡ 46 ∷ ((first ∷ digits) ++ rest)
  pub same : size ≡ suc (suc (length digits))
  pub all : list_all is_digit (first ∷ digits) ≡ true

fraction-is : (text : List ℕ) → 1 ≤ fraction_size text → Fraction text (fraction_size text)
fraction-is text = of (begins text (codes ".")) refl
  where
    of : (point : Bool) → begins text (codes ".") ≡ point → 1 ≤ (if point then before_digits is_digit 1 text else 0) → Fraction text (if point then before_digits is_digit 1 text else 0)
    of true e some =
        let parts = before-of 1 (run is_digit (drop 1 text)) some in
        let r : Ran is_digit (drop 1 text) = ran is_digit (drop 1 text) parts.0 in
        record {
          first = r.first;
          digits = r.more;
          rest = r.rest;
          split = begins-split (codes ".") text e ∙ ap (λ (more : List ℕ). 46 ∷ more) r.split;
          same = omega (arith, parts.1, r.size);
          all = r.all;
        }
    of false e some = absurd (omega (arith, some))

record Exponent (text : List ℕ) (size : ℕ) : Type 0 where
  pub bytes : List ℕ
  pub rest : List ℕ
  pub split : text ≡ bytes ++ rest
  pub same : size ≡ length bytes
  pub is : IsExponent bytes

signed-is : (letter sign : ℕ) (text : List ℕ) → is_exponent_letter letter ≡ true → is_sign sign ≡ true → text ≡ sign ∷ drop 1 text → 1 ≤ before_digits is_digit 2 (letter ∷ text)
    → Exponent (letter ∷ text) (before_digits is_digit 2 (letter ∷ text))
signed-is letter sign text is either split some =
    let parts = before-of 2 (run is_digit (drop 1 text)) some in
    let r : Ran is_digit (drop 1 text) = ran is_digit (drop 1 text) parts.0 in
    record {
      bytes = letter ∷ (sign ∷ (r.first ∷ r.more));
      rest = r.rest;
      split = ap (λ (more : List ℕ). letter ∷ more) (split ∙ ap (λ (more : List ℕ). sign ∷ more) r.split);
      same = omega (arith, parts.1, r.size);
      is = signed letter sign r.first r.more is either r.all;
    }

unsigned-is : (letter : ℕ) (text : List ℕ) → is_exponent_letter letter ≡ true → 1 ≤ before_digits is_digit 1 (letter ∷ text) → Exponent (letter ∷ text) (before_digits is_digit 1 (letter ∷ text))
unsigned-is letter text is some =
    let parts = before-of 1 (run is_digit text) some in
    let r : Ran is_digit text = ran is_digit text parts.0 in
    record {
      bytes = letter ∷ (r.first ∷ r.more);
      rest = r.rest;
      split = ap (λ (more : List ℕ). letter ∷ more) r.split;
      same = omega (arith, parts.1, r.size);
      is = unsigned letter r.first r.more is r.all;
    }

letter-is : (letter : ℕ) (text : List ℕ) → is_exponent_letter letter ≡ true → 1 ≤ before_digits is_digit (1 + sign_size text) (letter ∷ text)
    → Exponent (letter ∷ text) (before_digits is_digit (1 + sign_size text) (letter ∷ text))
letter-is letter text is = of (begins text (codes "+")) (begins text (codes "-")) refl refl
  where
    of : (plus minus : Bool) → begins text (codes "+") ≡ plus → begins text (codes "-") ≡ minus → 1 ≤ before_digits is_digit (1 + (if plus || minus then 1 else 0)) (letter ∷ text)
        → Exponent (letter ∷ text) (before_digits is_digit (1 + (if plus || minus then 1 else 0)) (letter ∷ text))
    of true minus p m some = signed-is letter 43 text is refl (begins-split (codes "+") text p) some
    of false true p m some = signed-is letter 45 text is refl (begins-split (codes "-") text m) some
    of false false p m some = unsigned-is letter text is some

exponent-is : (text : List ℕ) → 1 ≤ exponent_size text → Exponent text (exponent_size text)
exponent-is [] some = absurd (omega (arith, some))
exponent-is (letter ∷ text) some = of (begins (letter ∷ text) (codes "e")) (begins (letter ∷ text) (codes "E")) refl refl some
  where
    this : (byte : ℕ) → letter ∷ text ≡ byte ∷ text → letter ≡ byte
    this byte e = cc

    of : (lower upper : Bool) → begins (letter ∷ text) (codes "e") ≡ lower → begins (letter ∷ text) (codes "E") ≡ upper
        → 1 ≤ (if lower || upper then before_digits is_digit (1 + sign_size text) (letter ∷ text) else 0)
        → Exponent (letter ∷ text) (if lower || upper then before_digits is_digit (1 + sign_size text) (letter ∷ text) else 0)
    of true upper l u some = letter-is letter text (ap is_exponent_letter (this 101 (begins-split (codes "e") (letter ∷ text) l))) some
    of false true l u some = letter-is letter text (ap is_exponent_letter (this 69 (begins-split (codes "E") (letter ∷ text) u))) some
    of false false l u some = absurd (omega (arith, some))

-- what a double has
size-of : (whole fraction exponent : ℕ) → 1 ≤ whole_size whole fraction exponent → (1 ≤ fraction) ⊎ ((fraction ≡ 0) × (1 ≤ whole) × (1 ≤ exponent))
size-of whole (suc more) exponent some = inl (omega arith)
size-of zero zero exponent some = absurd (omega (arith, some))
size-of (suc whole) zero zero some = absurd (neither (suc whole == 0) (suc whole + 0) some)
  where
    neither : (b : Bool) (n : ℕ) → 1 ≤ (if b || true then 0 else n) → ⊥
    neither true n h = omega (arith, h)
    neither false n h = omega (arith, h)
size-of (suc whole) zero (suc exponent) some = inr (refl, omega arith, omega arith)

-- a text of which a part is split again
joined : (text whole behind bytes rest : List ℕ) → text ≡ whole ++ behind → behind ≡ bytes ++ rest → text ≡ (whole ++ bytes) ++ rest
joined text whole behind bytes rest s t = s ∙ ap (λ (more : List ℕ). whole ++ more) t ∙ sym (append_assoc whole bytes rest)

-- a double with a fraction
fraction-double : (text behind : List ℕ) (size : ℕ) → Fraction behind size → take_while is_digit text ++ behind ≡ text → (n : ℕ) → exponent_size (drop (run is_digit text + size) text) ≡ n
    → Front Double text (run is_digit text + (size + n))
fraction-double text behind size f split n e =
    let wholes : List ℕ = take_while is_digit text in
    let front : List ℕ = wholes ++ (46 ∷ (f.first ∷ f.digits)) in
    let text_is : text ≡ front ++ f.rest = joined text wholes behind (46 ∷ (f.first ∷ f.digits)) f.rest (sym split) f.split in
    let long : length front ≡ run is_digit text + size = omega (arith, length-append wholes (46 ∷ (f.first ∷ f.digits)), f.same) in
    let beyond : drop (run is_digit text + size) text ≡ f.rest = ap (λ (t : List ℕ). drop (run is_digit text + size) t) text_is ∙ drop_at front f.rest (run is_digit text + size) long in
    of n (ap (λ (t : List ℕ). exponent_size t) (sym beyond) ∙ e) text_is long
  where
    of : (n : ℕ) → exponent_size f.rest ≡ n → text ≡ (take_while is_digit text ++ (46 ∷ (f.first ∷ f.digits))) ++ f.rest → length (take_while is_digit text ++ (46 ∷ (f.first ∷ f.digits))) ≡ run is_digit text + size
        → Front Double text (run is_digit text + (size + n))
    of zero e text_is long = record {
      bytes = take_while is_digit text ++ (46 ∷ (f.first ∷ f.digits));
      rest = f.rest;
      split = text_is;
      same = omega (arith, long);
      is = fraction (take_while is_digit text) f.first f.digits (front-all is_digit text) f.all;
    }
    of (suc n) e text_is long =
        let x : Exponent f.rest (exponent_size f.rest) = exponent-is f.rest (omega (arith, e)) in
        record {
          bytes = take_while is_digit text ++ (46 ∷ ((f.first ∷ f.digits) ++ x.bytes));
          rest = x.rest;
          split = joined text (take_while is_digit text) behind (46 ∷ ((f.first ∷ f.digits) ++ x.bytes)) x.rest (sym split) (joined behind (46 ∷ (f.first ∷ f.digits)) f.rest x.bytes x.rest f.split x.split);
          same = omega (arith, e, x.same, f.same, length-append (take_while is_digit text) (46 ∷ ((f.first ∷ f.digits) ++ x.bytes)), length-append f.digits x.bytes);
          is = fraction_exponent (take_while is_digit text) f.first f.digits x.bytes (front-all is_digit text) f.all x.is;
        }

-- a double without one
whole-double : (text : List ℕ) (size : ℕ) → size ≡ 0 → 1 ≤ run is_digit text → (n : ℕ) → 1 ≤ n → exponent_size (drop (run is_digit text + size) text) ≡ n → Front Double text (run is_digit text + (size + n))
whole-double text size none some n more e =
    let r : Ran is_digit text = ran is_digit text some in
    let whole : List ℕ = r.first ∷ r.more in
    let beyond : drop (run is_digit text + size) text ≡ r.rest =
    ap (λ (t : List ℕ). drop (run is_digit text + size) t) r.split ∙ drop_at whole r.rest (run is_digit text + size) (omega (arith, none, r.size)) in
    let here : exponent_size r.rest ≡ n = ap (λ (t : List ℕ). exponent_size t) (sym beyond) ∙ e in
    let x : Exponent r.rest (exponent_size r.rest) = exponent-is r.rest (omega (arith, here, more)) in
    record {
      bytes = whole ++ x.bytes;
      rest = x.rest;
      split = joined text whole r.rest x.bytes x.rest r.split x.split;
      same = omega (arith, here, none, r.size, x.same, length-append whole x.bytes);
      is = whole_exponent r.first r.more x.bytes r.all x.is;
    }

double-is : (text : List ℕ) → 1 ≤ double_size text → Front Double text (double_size text)
double-is text some =
    let whole : ℕ = run is_digit text in
    let behind : List ℕ = drop whole text in
    let size : ℕ = fraction_size behind in
    let exponent : ℕ = exponent_size (drop (whole + size) text) in
    ⊎_elim
    (λ (h : 1 ≤ size). subst (λ (n : ℕ). Front Double text n) (sym (with-fraction whole size exponent h)) (fraction-double text behind size (fraction-is behind h) (front-split is_digit text) exponent refl))
    (λ (h : (size ≡ 0) × (1 ≤ whole) × (1 ≤ exponent)). subst (λ (n : ℕ). Front Double text n) (sym (with-exponent whole size exponent h.1 h.2)) (whole-double text size h.0 h.1 exponent h.2 refl))
    (size-of whole size exponent some)

-- A lexeme has a byte at least.

row-some : (table : List (List ℕ × Kind)) → list_all (λ row. nat_le 1 (length row.0)) table ≡ true → (k : ℕ) (d : List ℕ × Kind) → k < length table → 1 ≤ length (get_or table k d).0
row-some [] e k d h = absurd (omega (arith, h))
row-some (row ∷ more) e zero d h = leb-true 1 (length row.0) (and_parts (nat_le 1 (length row.0)) (list_all (λ row. nat_le 1 (length row.0)) more) e).0
row-some (row ∷ more) e (suc k) d h = row-some more (and_parts (nat_le 1 (length row.0)) (list_all (λ row. nat_le 1 (length row.0)) more) e).1 k d (omega (arith, h))

lexeme-some : (class : Class) (bytes : List ℕ) → IsLexeme class bytes → 1 ≤ length bytes
lexeme-some class bytes (word first {parts = parts} start all) = omega arith
lexeme-some class bytes (decimal first {digits = digits} all) = omega arith
lexeme-some class bytes (hexadecimal first {digits = digits} all) = omega arith
lexeme-some class bytes (upper_hexadecimal first {digits = digits} all) = omega arith
lexeme-some class bytes (fraction whole first digits wholes all) = omega (arith, length-append whole (46 ∷ (first ∷ digits)))
lexeme-some class bytes (fraction_exponent whole first digits exponent wholes all is) = omega (arith, length-append whole (46 ∷ ((first ∷ digits) ++ exponent)))
lexeme-some class bytes (whole_exponent first digits exponent all is) = omega arith
lexeme-some class bytes (mark row among) = omega (arith, row-some marks refl among.0 row among.1, ap (λ (r : List ℕ × Kind). length r.0) among.2)

-- Pieces.

-- the piece of so many bytes, which are of a class
abbrev Cut : List ℕ → Piece → Type 0
Cut text piece = IsFirstPiece piece.class (take piece.size text) (drop piece.size text)

split-is : (class : Class) (text bytes rest : List ℕ) (size : ℕ) → text ≡ bytes ++ rest → size ≡ length bytes → IsFirstPiece class bytes rest → IsFirstPiece class (take size text) (drop size text)
split-is class text bytes rest size split same is =
    subst (λ (t : List ℕ). IsFirstPiece class (take size t) (drop size t)) (sym split)
    (subst (λ (b : List ℕ). IsFirstPiece class b (drop size (bytes ++ rest))) (sym (take_at bytes rest size (sym same)))
    (subst (λ (r : List ℕ). IsFirstPiece class bytes r) (sym (drop_at bytes rest size (sym same))) is))

front-is : (class : Class) (text : List ℕ) (size : ℕ) → begins text (codes "//") ≡ false → begins text (codes "/*") ≡ false → Front class text size → IsFirstPiece class (take size text) (drop size text)
front-is class text size line block f =
    split-is class text f.bytes f.rest size f.split f.same
    (lexeme (subst (λ (t : List ℕ). begins t (codes "//") ≡ false) f.split line) (subst (λ (t : List ℕ). begins t (codes "/*") ≡ false) f.split block) f.is)

by-longer : (P : Piece → Type 0) (a b : Piece) → 1 ≤ b.size → (1 ≤ a.size → P a) → (a.size < b.size → P b) → P (longer a b)
by-longer P a b least f g = of (nat_lt a.size b.size) refl
  where
    of : (t : Bool) → nat_lt a.size b.size ≡ t → P (if t then b else a)
    of true e = g (ltb-true a.size b.size e)
    of false e = f (omega (arith, least, ltb-false a.size b.size e))

longer-some : (a b : Piece) → 1 ≤ b.size → 1 ≤ (longer a b).size
longer-some a b least = by-longer (λ (p : Piece). 1 ≤ p.size) a b least (λ h. h) (λ h. least)

-- the longest of six, the last of which has one byte; where that one is taken, the others are empty
by-longest : (P : Piece → Type 0) (a b c d e f : Piece) → f.size ≡ 1 → (1 ≤ a.size → P a) → (1 ≤ b.size → P b) → (1 ≤ c.size → P c) → (1 ≤ d.size → P d) → (1 ≤ e.size → P e)
    → (a.size ≡ 0 → b.size ≡ 0 → c.size ≡ 0 → d.size ≡ 0 → e.size ≡ 0 → P f) → P (longer a (longer b (longer c (longer d (longer e f)))))
by-longest P a b c d e f one pa pb pc pd pe pf =
    let fs : 1 ≤ f.size = omega (arith, one) in
    let es : 1 ≤ (longer e f).size = longer-some e f fs in
    let ds : 1 ≤ (longer d (longer e f)).size = longer-some d (longer e f) es in
    let cs : 1 ≤ (longer c (longer d (longer e f))).size = longer-some c (longer d (longer e f)) ds in
    let bs : 1 ≤ (longer b (longer c (longer d (longer e f)))).size = longer-some b (longer c (longer d (longer e f))) cs in
    by-longer P a (longer b (longer c (longer d (longer e f)))) bs pa
    (by-longer (λ (p : Piece). a.size < p.size → P p) b (longer c (longer d (longer e f))) cs (λ s _. pb s)
    (by-longer (λ (p : Piece). b.size < p.size → a.size < p.size → P p) c (longer d (longer e f)) ds (λ s _ _. pc s)
    (by-longer (λ (p : Piece). c.size < p.size → b.size < p.size → a.size < p.size → P p) d (longer e f) es (λ s _ _ _. pd s)
    (by-longer (λ (p : Piece). d.size < p.size → c.size < p.size → b.size < p.size → a.size < p.size → P p) e f fs (λ s _ _ _ _. pe s)
    (λ he hd hc hb ha. pf (zero-of a.size f.size one ha) (zero-of b.size f.size one hb) (zero-of c.size f.size one hc) (zero-of d.size f.size one hd) (zero-of e.size f.size one he))))))
  where
    zero-of : (n m : ℕ) → m ≡ 1 → n < m → n ≡ 0
    zero-of n m one h = omega (arith, one, h)

beyond-is : (text : List ℕ) → 1 ≤ run is_beyond_ascii text → IsFirstPiece BeyondAscii (take (run is_beyond_ascii text) text) (drop (run is_beyond_ascii text) text)
beyond-is text some =
    let r : Ran is_beyond_ascii text = ran is_beyond_ascii text some in
    split-is BeyondAscii text (r.first ∷ r.more) r.rest (run is_beyond_ascii text) r.split r.size (beyond_ascii r.first r.more r.rest r.all r.stops)

none-first : (p : ℕ → Bool) (first : ℕ) (text : List ℕ) → run p (first ∷ text) ≡ 0 → p first ≡ false
none-first p first text h = of (p first) refl (sym (ap length (take_while-cons p first text)) ∙ h)
  where
    of : (b : Bool) → p first ≡ b → length (if b then first ∷ take_while p text else []) ≡ 0 → p first ≡ false
    of true e h = absurd (omega (arith, h))
    of false e h = e

lexeme-cut : (first : ℕ) (text : List ℕ) → is_blank first ≡ false → begins (first ∷ text) (codes "//") ≡ false → begins (first ∷ text) (codes "/*") ≡ false → Cut (first ∷ text) (lexeme_at (first ∷ text))
lexeme-cut first text blank line block =
    let all : List ℕ = first ∷ text in
    let size : ℕ = mark_size all in
    by-longest (Cut (first ∷ text)) (record { class = Word; size = word_size all }) (record { class = Integer; size = integer_size all }) (record { class = Double; size = double_size all })
    (record { class = Mark; size = mark_size all }) (record { class = BeyondAscii; size = run is_beyond_ascii all }) (record { class = IllegalCharacter; size = 1 }) refl
    (λ s. front-is Word (first ∷ text) (word_size (first ∷ text)) line block (word-is (first ∷ text) s))
    (λ s. front-is Integer (first ∷ text) (integer_size (first ∷ text)) line block (integer-is (first ∷ text) s))
    (λ s. front-is Double (first ∷ text) (double_size (first ∷ text)) line block (double-is (first ∷ text) s))
    (λ s. lexeme (subst (λ (t : List ℕ). begins t (codes "//") ≡ false) (sym (take-append-drop size all)) line) (subst (λ (t : List ℕ). begins t (codes "/*") ≡ false) (sym (take-append-drop size all)) block)
    (mark-is (first ∷ text) s))
    (λ s. beyond-is (first ∷ text) s)
    (λ w i d m b. no_lexeme first text (none-first is_beyond_ascii first text b) blank (none w i d m))
  where
    none : word_size (first ∷ text) ≡ 0 → integer_size (first ∷ text) ≡ 0 → double_size (first ∷ text) ≡ 0 → mark_size (first ∷ text) ≡ 0
        → (class : Class) (bytes more : List ℕ) → IsLexeme class bytes → first ∷ text ≡ bytes ++ more → ⊥
    none w i d m class bytes more is split =
        let most : AtMost 0 (first ∷ text) = (omega (arith, w), omega (arith, i), omega (arith, m), omega (arith, d)) in
        let short : length bytes ≤ 0 = lexeme-front class bytes more 0 is (subst (AtMost 0) split most) in
        omega (arith, short, lexeme-some class bytes is)

blank-cut : (text : List ℕ) → 1 ≤ run is_blank text → IsFirstPiece Gap (take (run is_blank text) text) (drop (run is_blank text) text)
blank-cut text some =
    let r : Ran is_blank text = ran is_blank text some in
    split-is Gap text (r.first ∷ r.more) r.rest (run is_blank text) r.split r.size (white_space r.first r.more r.rest r.all r.stops)

line-cut : (text : List ℕ) → begins text (codes "//") ≡ true → IsFirstPiece Gap (take (2 + run is_within_line (drop 2 text)) text) (drop (2 + run is_within_line (drop 2 text)) text)
line-cut text h =
    let line : List ℕ = take_while is_within_line (drop 2 text) in
    let rest : List ℕ = drop (run is_within_line (drop 2 text)) (drop 2 text) in
    let split : text ≡ (codes "//" ++ line) ++ rest = begins-split (codes "//") text h ∙ ap (λ (more : List ℕ). codes "//" ++ more) (sym (front-split is_within_line (drop 2 text))) in
    split-is Gap text (codes "//" ++ line) rest (2 + run is_within_line (drop 2 text)) split (omega arith)
    (line_comment line rest (front-all is_within_line (drop 2 text)) (front-stops is_within_line (drop 2 text)))

comment-cut : (text : List ℕ) → begins text (codes "/*") ≡ true → Cut text (comment_piece text)
comment-cut text h = of (comment_size (drop 2 text)) refl (sound (drop 2 text))
  where
    split : text ≡ codes "/*" ++ drop 2 text
    split = begins-split (codes "/*") text h

    of : (o : Option ℕ) → comment_size (drop 2 text) ≡ o → IfSome o (λ size. IsComment (take size (codes "/*" ++ drop 2 text)))
        → Cut text (option_map_or {U = Piece} (λ size. record { class = Gap; size = size }) o (record { class = UnterminatedComment; size = length text }))
    of None e is =
        split-is UnterminatedComment text text [] (length text) (sym (append-nothing text)) refl (endless_comment text h (λ (comment rest : List ℕ) (is : IsComment comment) (s : text ≡ comment ++ rest). never comment rest is s e))
      where
        never : (comment rest : List ℕ) → IsComment comment → text ≡ comment ++ rest → comment_size (drop 2 text) ≡ None → ⊥
        never comment rest is s e = let found = comment-size is rest in let same = ap (λ (t : List ℕ). comment_size (drop 2 t)) s in absurd (cc)
    of (Some size) e is = block_comment (subst (λ (t : List ℕ). IsComment (take size t)) (sym split) is)

cut : (first : ℕ) (text : List ℕ) → Cut (first ∷ text) (piece_at false (first ∷ text))
cut first text = of (nat_lt 0 (run is_blank (first ∷ text))) (begins (first ∷ text) (codes "//")) (begins (first ∷ text) (codes "/*")) refl refl refl
  where
    of : (blank line block : Bool) → nat_lt 0 (run is_blank (first ∷ text)) ≡ blank → begins (first ∷ text) (codes "//") ≡ line → begins (first ∷ text) (codes "/*") ≡ block →
        Cut (first ∷ text) (if blank then (record { class = Gap; size = run is_blank (first ∷ text) }) else (if line then (record { class = Gap; size = 2 + run is_within_line (drop 2 (first ∷ text)) }) else (if block then comment_piece (first ∷ text) else lexeme_at (first ∷ text))))
    of true line block b l c = blank-cut (first ∷ text) (omega (arith, ltb-true 0 (run is_blank (first ∷ text)) b))
    of false true block b l c = line-cut (first ∷ text) l
    of false false true b l c = comment-cut (first ∷ text) c
    of false false false b l c = lexeme-cut first text (none-first is_blank first text (omega (arith, ltb-false 0 (run is_blank (first ∷ text)) b))) l c

-- Of the pieces of a text.

pub first-piece : (text : List ℕ) (piece : Spelled) (more : List Spelled) → string_form text ≡ None → pieces_behind text ≡ piece ∷ more
    → (rest : List ℕ) × (text ≡ piece.1 ++ rest) × (more ≡ pieces_behind rest) × IsFirstPiece piece.0 piece.1 rest
unfolding pieces_within
first-piece [] piece more unbegun e = absurd (cc)
first-piece (first ∷ text) piece more unbegun e =
    let size : ℕ = (piece_at false (first ∷ text)).size in
    let rest : List ℕ = drop size (first ∷ text) in
    let read : next_at enough false (first ∷ text) ≡ read_piece false (first ∷ text) = none-begins (first ∷ text) (string_form (first ∷ text)) unbegun in
    let all = sym (behind-step first text ∙ ap (λ (r : Read). r.pieces ++ pieces_behind r.rest) read) ∙ e in
    subst (λ (p : Spelled). (rest : List ℕ) × (first ∷ text ≡ p.1 ++ rest) × (more ≡ pieces_behind rest) × IsFirstPiece p.0 p.1 rest) (head_same _ _ _ _ all)
    (rest, sym (take-append-drop size (first ∷ text)), tail_same _ _ _ _ all, cut first text)
  where
    head_same : (p q : Spelled) (ps qs : List Spelled) → p ∷ ps ≡ q ∷ qs → p ≡ q
    head_same p q ps qs h = cc

    tail_same : (p q : Spelled) (ps qs : List Spelled) → p ∷ ps ≡ q ∷ qs → qs ≡ ps
    tail_same p q ps qs h = cc
