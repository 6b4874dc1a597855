-- Lexemes are equally long in texts that go on alike.
use Rattle.std.proofs.Common.{◌≡◌, ℕ, zero, suc, ◌+◌, ◌≤◌, ◌==◌, ◌||◌, ◌&&◌, Bool, true, false, List, [], ◌∷◌, length, drop, max, nat_eq, codes, if◌then◌else◌, Option, Some, refl, sym, ap, subst, ◌∙◌, arith}
use Rattle.std.specs.List.{list_all}
use Rattle.std.specs.Option.{option_map_or}
use Rattle.std.proofs.lemmas.Bool.{and_parts, eqb-true, ne_eqb}
use Rattle.std.proofs.lemmas.Bool.Decides.{nat_tests}
use Rattle.dart_tokens.specs.declared.token.Kind.{Kind}
use Rattle.dart_tokens.specs.Marks.{marks, first_among}
use Rattle.dart_scan.specs.Characters.{is_beyond_ascii, is_digit, is_hexadecimal_digit, is_identifier_start, is_identifier_part}
use Rattle.dart_scan.specs.Lexemes.{begins, run, before_digits, word_size, hexadecimal_size, integer_size, fraction_size, sign_size, exponent_size, double_size, mark_size}
use Rattle.dart_scan.specs.Pieces.{longer, lexeme_at}
use Rattle.dart_scan.specs.declared.piece.Class.TheVariants.{IllegalCharacter, BeyondAscii, Word, Integer, Double, Mark}
use Rattle.dart_scan.specs.declared.piece.Piece.{Piece}
use Rattle.dart_scan.specs.LawLemmas.{word-longest, integer-longest, double-longest, mark-longest}
use Rattle.dart_scan.specs.FormLemmas.{begins-split}
use Rattle.tree_print.proofs.Alike.{Alike, ends, blank, same, is_solid, NoBlank, no-blank, run-alike, run-none, begun-alike, shared-begins}

digits-solid : NoBlank is_digit
digits-solid = no-blank is_digit refl refl refl refl

hexadecimal-solid : NoBlank is_hexadecimal_digit
hexadecimal-solid = no-blank is_hexadecimal_digit refl refl refl refl

parts-solid : NoBlank is_identifier_part
parts-solid = no-blank is_identifier_part refl refl refl refl

starts-solid : NoBlank is_identifier_start
starts-solid = no-blank is_identifier_start refl refl refl refl

-- Words.

pub word-alike : {n : ℕ} (text other : List ℕ) → Alike n text other → word_size text ≤ n → word_size other ≡ word_size text
word-alike text other ends h = omega (arith, h)
word-alike text other (blank byte more e) h = ap (λ (s : Bool). if s then 1 + run is_identifier_part more else 0) (starts-solid byte e) ∙ omega (arith, h)
word-alike text other (same {n = n} byte {text = tail} {other = rest} less a) h = of (is_identifier_start byte) (omega (arith, h, less))
  where
    of : (s : Bool) → (if s then 1 + run is_identifier_part tail else 0) ≤ suc n
        → (if s then 1 + run is_identifier_part rest else 0) ≡ (if s then 1 + run is_identifier_part tail else 0)
    of true h = let more = run-alike is_identifier_part parts-solid tail rest a (omega (arith, h)) in omega (arith, more)
    of false h = refl

-- Digits behind so many bytes.

few : (d ahead n m : ℕ) → n ≤ m + ahead → (if d == 0 then 0 else ahead + d) ≤ n → d ≤ m
few zero ahead n m fits h = omega arith
few (suc d) ahead n m fits h = of (suc d == 0) (ne_eqb (suc d) 0 (λ none. omega (arith, none))) h
  where
    of : (s : Bool) → s ≡ false → (if s then 0 else ahead + suc d) ≤ n → suc d ≤ m
    of true e h = absurd (cc)
    of false e h = omega (arith, h, fits)

none-fit : (d ahead n : ℕ) → (if d == 0 then 0 else ahead + d) ≤ n → (ahead ≤ n → ⊥) → 0 ≡ (if d == 0 then 0 else ahead + d)
none-fit zero ahead n h never = refl
none-fit (suc d) ahead n h never = of (suc d == 0) h
  where
    of : (s : Bool) → (if s then 0 else ahead + suc d) ≤ n → 0 ≡ (if s then 0 else ahead + suc d)
    of true h = refl
    of false h = absurd (never (omega (arith, h)))

before-alike : (p : ℕ → Bool) → NoBlank p → (ahead n : ℕ) {m : ℕ} (text other : List ℕ) → n ≤ m + ahead → Alike m (drop ahead text) (drop ahead other)
    → before_digits p ahead text ≤ n → before_digits p ahead other ≡ before_digits p ahead text
before-alike p none ahead n {m = m} text other fits a h =
    ap (λ (d : ℕ). if d == 0 then 0 else ahead + d) (run-alike p none (drop ahead text) (drop ahead other) a (few (run p (drop ahead text)) ahead n m fits h))

opened-alike : (p : ℕ → Bool) → NoBlank p → (word : List ℕ) → list_all is_solid word ≡ true → {n : ℕ} (text other : List ℕ) → Alike n text other
    → (if begins text word then before_digits p (length word) text else 0) ≤ n
    → (if begins other word then before_digits p (length word) other else 0) ≡ (if begins text word then before_digits p (length word) text else 0)
opened-alike p none word solid {n = n} text other a = of (begins text word) (begins other word) refl refl
  where
    ahead : ℕ
    ahead = length word

    of : (s s' : Bool) → begins text word ≡ s → begins other word ≡ s' → (if s then before_digits p ahead text else 0) ≤ n
        → (if s' then before_digits p ahead other else 0) ≡ (if s then before_digits p ahead text else 0)
    of true true e f h = let found = begun-alike word text other solid a f in before-alike p none ahead n text other found.2 found.3 h
    of true false e f h = none-fit (run p (drop ahead text)) ahead n h (λ long. let g : begins other word ≡ true = shared-begins word text other a long e in absurd (cc))
    of false true e f h = let g : begins text word ≡ true = (begun-alike word text other solid a f).0 in absurd (cc)
    of false false e f h = refl

-- one of two openings
either-alike : (l u l' u' : Bool) (x x' n : ℕ) → ((if l then x else 0) ≤ n → (if l' then x' else 0) ≡ (if l then x else 0)) → ((if u then x else 0) ≤ n → (if u' then x' else 0) ≡ (if u then x else 0))
    → (l' ≡ true → l ≡ true) → (u' ≡ true → u ≡ true) → (if l || u then x else 0) ≤ n → (if l' || u' then x' else 0) ≡ (if l || u then x else 0)
either-alike true true true true x x' n f g k j h = f h
either-alike true true true false x x' n f g k j h = f h
either-alike true true false true x x' n f g k j h = g h
either-alike true true false false x x' n f g k j h = f h
either-alike true false true true x x' n f g k j h = f h
either-alike true false true false x x' n f g k j h = f h
either-alike true false false true x x' n f g k j h = let wrong = j refl in absurd (cc)
either-alike true false false false x x' n f g k j h = f h
either-alike false u true u' x x' n f g k j h = let wrong = k refl in absurd (cc)
either-alike false true false true x x' n f g k j h = g h
either-alike false true false false x x' n f g k j h = g h
either-alike false false false true x x' n f g k j h = let wrong = j refl in absurd (cc)
either-alike false false false false x x' n f g k j h = refl

hexadecimal-alike : {n : ℕ} (text other : List ℕ) → Alike n text other → hexadecimal_size text ≤ n → hexadecimal_size other ≡ hexadecimal_size text
hexadecimal-alike {n = n} text other a h =
    either-alike (begins text (codes "0x")) (begins text (codes "0X")) (begins other (codes "0x")) (begins other (codes "0X"))
    (before_digits is_hexadecimal_digit 2 text) (before_digits is_hexadecimal_digit 2 other) n
    (opened-alike is_hexadecimal_digit hexadecimal-solid (codes "0x") refl text other a) (opened-alike is_hexadecimal_digit hexadecimal-solid (codes "0X") refl text other a)
    (λ e. (begun-alike (codes "0x") text other refl a e).0) (λ e. (begun-alike (codes "0X") text other refl a e).0) h

pub integer-alike : {n : ℕ} (text other : List ℕ) → Alike n text other → integer_size text ≤ n → integer_size other ≡ integer_size text
integer-alike text other a h =
    let digits : run is_digit other ≡ run is_digit text = run-alike is_digit digits-solid text other a (omega (arith, h)) in
    let hexadecimal : hexadecimal_size other ≡ hexadecimal_size text = hexadecimal-alike text other a (omega (arith, h)) in
    ap (λ (d : ℕ). max d (hexadecimal_size other)) digits ∙ ap (λ (d : ℕ). max (run is_digit text) d) hexadecimal

fraction-alike : {n : ℕ} (text other : List ℕ) → Alike n text other → fraction_size text ≤ n → fraction_size other ≡ fraction_size text
fraction-alike text other a h = opened-alike is_digit digits-solid (codes ".") refl text other a h

-- Exponents.

-- so many bytes on, fewer are shared
pub drop-alike : (k : ℕ) {n : ℕ} (text other : List ℕ) → k ≤ n → Alike n text other → (m : ℕ) × (n ≤ m + k) × Alike m (drop k text) (drop k other)
drop-alike zero {n = n} text other h a = (n, omega arith, a)
drop-alike (suc k) text other h ends = absurd (omega (arith, h))
drop-alike (suc k) text other h (blank byte more e) = absurd (omega (arith, h))
drop-alike (suc k) text other h (same byte {text = tail} {other = rest} less a) =
    let later = drop-alike k tail rest (omega (arith, h, less)) a in (later.0, omega (arith, less, later.1), later.2)

-- digits behind a letter and so many bytes of a sign
behind-letter : (byte sign : ℕ) (tail : List ℕ) → before_digits is_digit (1 + sign) (byte ∷ tail) ≡ (let d = run is_digit (drop sign tail) in if d == 0 then 0 else (1 + sign) + d)
behind-letter byte sign tail =
    let one : 1 + sign ≡ suc sign = omega arith in
    ap (λ (k : ℕ). let d = run is_digit (drop k (byte ∷ tail)) in if d == 0 then 0 else (1 + sign) + d) one

-- digits behind a sign, or none
abbrev signed : (sign : ℕ) → List ℕ → ℕ
signed sign tail = let d = run is_digit (drop sign tail) in if d == 0 then 0 else (1 + sign) + d

signed-alike : (sign k n : ℕ) {m : ℕ} (tail rest : List ℕ) → k ≤ suc n → n ≤ m + sign → Alike m (drop sign tail) (drop sign rest) → signed sign tail ≤ k → signed sign rest ≡ signed sign tail
signed-alike sign k n {m = m} tail rest more fits a h =
    ap (λ (d : ℕ). if d == 0 then 0 else (1 + sign) + d) (run-alike is_digit digits-solid (drop sign tail) (drop sign rest) a (few (run is_digit (drop sign tail)) (1 + sign) k m (omega (arith, more, fits)) h))

-- no digit stands where a sign does
sign-first : (sign : ℕ) (tail : List ℕ) → is_digit sign ≡ false → begins tail (sign ∷ []) ≡ true → run is_digit tail ≡ 0
sign-first sign tail no-digit e = ap (run is_digit) (begins-split (sign ∷ []) tail e) ∙ run-none is_digit sign (drop 1 tail) no-digit

sign-alike : {n : ℕ} (k : ℕ) (tail rest : List ℕ) → k ≤ suc n → Alike n tail rest → signed (sign_size tail) tail ≤ k → signed (sign_size rest) rest ≡ signed (sign_size tail) tail
sign-alike {n = n} k tail rest more a =
    of (begins tail (codes "+")) (begins tail (codes "-")) (begins rest (codes "+")) (begins rest (codes "-")) refl refl refl refl
  where
    both : (sign : ℕ) → begins rest (sign ∷ []) ≡ true → is_solid sign ≡ true → signed 1 tail ≤ k → signed 1 rest ≡ signed 1 tail
    both sign e solid h = let found = begun-alike (sign ∷ []) tail rest (subst (λ (s : Bool). (s && true) ≡ true) (sym solid) refl) a e in signed-alike 1 k n tail rest more found.2 found.3 h

    -- the sign is not shared, and no digits stand there
    apart : (sign : ℕ) → is_digit sign ≡ false → begins tail (sign ∷ []) ≡ true → begins rest (sign ∷ []) ≡ false → signed 1 tail ≤ k → signed 0 rest ≡ signed 1 tail
    apart sign no-digit e f h =
        let none : run is_digit rest ≡ 0 = run-alike is_digit digits-solid tail rest a (omega (arith, sign-first sign tail no-digit e)) ∙ sign-first sign tail no-digit e in
        ap (λ (d : ℕ). if d == 0 then 0 else (1 + 0) + d) none
        ∙ none-fit (run is_digit (drop 1 tail)) (1 + 1) k h (λ long. let g : begins rest (sign ∷ []) ≡ true = shared-begins (sign ∷ []) tail rest a (omega (arith, long, more)) e in absurd (cc))

    of : (p q p' q' : Bool) → begins tail (codes "+") ≡ p → begins tail (codes "-") ≡ q → begins rest (codes "+") ≡ p' → begins rest (codes "-") ≡ q'
        → signed (if p || q then 1 else 0) tail ≤ k → signed (if p' || q' then 1 else 0) rest ≡ signed (if p || q then 1 else 0) tail
    of true q true q' e f e' f' h = both 43 e' refl h
    of false q true q' e f e' f' h = let g : begins tail (codes "+") ≡ true = (begun-alike (codes "+") tail rest refl a e').0 in absurd (cc)
    of true true false true e f e' f' h = both 45 f' refl h
    of true false false true e f e' f' h = both 45 f' refl h
    of false true false true e f e' f' h = both 45 f' refl h
    of false false false true e f e' f' h = let g : begins tail (codes "-") ≡ true = (begun-alike (codes "-") tail rest refl a f').0 in absurd (cc)
    of true q false false e f e' f' h = apart 43 refl e e' h
    of false true false false e f e' f' h = apart 45 refl f f' h
    of false false false false e f e' f' h = signed-alike 0 k n tail rest more (omega arith) a h

exponent-alike : {n : ℕ} (text other : List ℕ) → Alike n text other → exponent_size text ≤ n → exponent_size other ≡ exponent_size text
exponent-alike text other ends h = omega (arith, h)
exponent-alike text other (blank byte more e) h =
    let lower : nat_eq 101 byte ≡ false = no-blank (nat_eq 101) refl refl refl refl byte e in
    let upper : nat_eq 69 byte ≡ false = no-blank (nat_eq 69) refl refl refl refl byte e in
    let none : exponent_size (byte ∷ more) ≡ 0 =
    ap (λ (s : Bool). if (s && true) || (nat_eq 69 byte && true) then before_digits is_digit (1 + sign_size more) (byte ∷ more) else 0) lower
    ∙ ap (λ (s : Bool). if s && true then before_digits is_digit (1 + sign_size more) (byte ∷ more) else 0) upper in
    omega (arith, none, h)
exponent-alike text other (same {m = m} byte {text = tail} {other = rest} less a) h = of ((nat_eq 101 byte && true) || (nat_eq 69 byte && true)) h
  where
    of : (s : Bool) → (if s then before_digits is_digit (1 + sign_size tail) (byte ∷ tail) else 0) ≤ m
        → (if s then before_digits is_digit (1 + sign_size rest) (byte ∷ rest) else 0) ≡ (if s then before_digits is_digit (1 + sign_size tail) (byte ∷ tail) else 0)
    of true h = behind-letter byte (sign_size rest) rest ∙ sign-alike m tail rest less a (subst (λ (n : ℕ). n ≤ m) (behind-letter byte (sign_size tail) tail) h) ∙ sym (behind-letter byte (sign_size tail) tail)
    of false h = refl

-- Doubles.

-- the size of a double of these parts
abbrev double_of : (whole fraction exponent : ℕ) → ℕ
double_of whole fraction exponent = if fraction == 0 && (whole == 0 || exponent == 0) then 0 else whole + (fraction + exponent)

fraction-few : (whole fraction exponent n m : ℕ) → n ≤ m + whole → double_of whole fraction exponent ≤ n → fraction ≤ m
fraction-few whole zero exponent n m fits h = omega arith
fraction-few whole (suc fraction) exponent n m fits h = of (suc fraction == 0) (ne_eqb (suc fraction) 0 (λ none. omega (arith, none))) h
  where
    of : (s : Bool) → s ≡ false → (if s && (whole == 0 || exponent == 0) then 0 else whole + (suc fraction + exponent)) ≤ n → suc fraction ≤ m
    of true e h = absurd (cc)
    of false e h = omega (arith, h, fits)

-- an exponent is no longer than what is shared, or there is no double
exponent-few : (whole fraction exponent n m : ℕ) → n ≤ m + (whole + fraction) → double_of whole fraction exponent ≤ n → (exponent' : ℕ) → (exponent ≤ m → exponent' ≡ exponent) → double_of whole fraction exponent' ≡ double_of whole fraction exponent
exponent-few whole fraction exponent n m fits h exponent' k = of (fraction == 0) (whole == 0) (exponent == 0) refl h
  where
    of : (f w e : Bool) → (exponent == 0) ≡ e → (if f && (w || e) then 0 else whole + (fraction + exponent)) ≤ n
        → (if f && (w || (exponent' == 0)) then 0 else whole + (fraction + exponent')) ≡ (if f && (w || e) then 0 else whole + (fraction + exponent))
    of true true e is h = refl
    of true false true is h =
        let none : exponent ≡ 0 = eqb-true exponent 0 is in
        ap (λ (x : ℕ). if x == 0 then 0 else whole + (fraction + x)) (k (omega (arith, none)) ∙ none)
    of true false false is h =
        ap (λ (x : ℕ). if x == 0 then 0 else whole + (fraction + x)) (k (omega (arith, h, fits))) ∙ ap (λ (s : Bool). if s then 0 else whole + (fraction + exponent)) is
    of false w e is h = ap (λ (x : ℕ). whole + (fraction + x)) (k (omega (arith, h, fits)))

front-few : (whole fraction exponent n : ℕ) → whole ≤ n → double_of whole fraction exponent ≤ n → whole + fraction ≤ n
front-few whole zero exponent n less h = omega (arith, less)
front-few whole (suc fraction) exponent n less h = of (suc fraction == 0) (ne_eqb (suc fraction) 0 (λ none. omega (arith, none))) h
  where
    of : (s : Bool) → s ≡ false → (if s && (whole == 0 || exponent == 0) then 0 else whole + (suc fraction + exponent)) ≤ n → whole + suc fraction ≤ n
    of true e h = absurd (cc)
    of false e h = omega (arith, h)

pub double-alike : {n : ℕ} (text other : List ℕ) → Alike n text other → run is_digit text ≤ n → double_size text ≤ n → double_size other ≡ double_size text
double-alike {n = n} text other a digits h =
    let whole : ℕ = run is_digit text in
    let fraction : ℕ = fraction_size (drop whole text) in
    let exponent : ℕ = exponent_size (drop (whole + fraction) text) in
    let behind = drop-alike whole text other digits a in
    let wholes : run is_digit other ≡ whole = run-alike is_digit digits-solid text other a digits in
    let fractions : fraction_size (drop whole other) ≡ fraction =
    fraction-alike (drop whole text) (drop whole other) behind.2 (fraction-few whole fraction exponent n behind.0 behind.1 h) in
    let further = drop-alike (whole + fraction) text other (front-few whole fraction exponent n digits h) a in
    ap (λ (w : ℕ). double_of w (fraction_size (drop w other)) (exponent_size (drop (w + fraction_size (drop w other)) other))) wholes
    ∙ ap (λ (f : ℕ). double_of whole f (exponent_size (drop (whole + f) other))) fractions
    ∙ exponent-few whole fraction exponent n further.0 further.1 h (exponent_size (drop (whole + fraction) other))
    (exponent-alike (drop (whole + fraction) text) (drop (whole + fraction) other) further.2)

-- Marks.

-- the size of the mark that was found
abbrev size_found : Option (Kind × ℕ) → ℕ
size_found found = option_map_or (λ found. found.1) found 0

among-alike : (rows : List (List ℕ × Kind)) {n : ℕ} (text other : List ℕ) → list_all (λ row. list_all is_solid row.0) rows ≡ true → Alike n text other
    → size_found (first_among rows text) ≤ n → first_among rows other ≡ first_among rows text
among-alike [] text other solid a h = refl
among-alike (row ∷ rows) {n = n} text other solid a h =
    let parts = and_parts (list_all is_solid row.0) (list_all (λ row. list_all is_solid row.0) rows) solid in
    of parts.0 (begins text row.0) (begins other row.0) refl refl h (among-alike rows text other parts.1 a)
  where
    of : list_all is_solid row.0 ≡ true → (s s' : Bool) → begins text row.0 ≡ s → begins other row.0 ≡ s' → size_found (if s then Some (row.1, length row.0) else first_among rows text) ≤ n
        → (size_found (first_among rows text) ≤ n → first_among rows other ≡ first_among rows text)
        → (if s' then Some (row.1, length row.0) else first_among rows other) ≡ (if s then Some (row.1, length row.0) else first_among rows text)
    of word true true e e' h later = refl
    of word true false e e' h later = let g : begins other row.0 ≡ true = shared-begins row.0 text other a h e in absurd (cc)
    of word false true e e' h later = let g : begins text row.0 ≡ true = (begun-alike row.0 text other word a e').0 in absurd (cc)
    of word false false e e' h later = later h

pub mark-alike : {n : ℕ} (text other : List ℕ) → Alike n text other → mark_size text ≤ n → mark_size other ≡ mark_size text
mark-alike text other a h = ap size_found (among-alike marks text other refl a h)

-- Lexemes.

longer-first : (a b : Piece) → a.size ≤ (longer a b).size
longer-first a b = grind (arith, nat_tests)

longer-second : (a b : Piece) → b.size ≤ (longer a b).size
longer-second a b = grind (arith, nat_tests)

beyond-longest : (text : List ℕ) → run is_beyond_ascii text ≤ (lexeme_at text).size
beyond-longest text =
    let marked : Piece = longer (record { class = Mark; size = mark_size text }) (longer (record { class = BeyondAscii; size = run is_beyond_ascii text }) (record { class = IllegalCharacter; size = 1 })) in
    let doubled : Piece = longer (record { class = Double; size = double_size text }) marked in
    let numbered : Piece = longer (record { class = Integer; size = integer_size text }) doubled in
    let first : run is_beyond_ascii text ≤ (longer (record { class = BeyondAscii; size = run is_beyond_ascii text }) (record { class = IllegalCharacter; size = 1 })).size =
    longer-first (record { class = BeyondAscii; size = run is_beyond_ascii text }) (record { class = IllegalCharacter; size = 1 }) in
    let second = longer-second (record { class = Mark; size = mark_size text }) (longer (record { class = BeyondAscii; size = run is_beyond_ascii text }) (record { class = IllegalCharacter; size = 1 })) in
    let third = longer-second (record { class = Double; size = double_size text }) marked in
    let fourth = longer-second (record { class = Integer; size = integer_size text }) doubled in
    let fifth = longer-second (record { class = Word; size = word_size text }) numbered in
    omega (arith, first, second, third, fourth, fifth)

beyond-solid : NoBlank is_beyond_ascii
beyond-solid = no-blank is_beyond_ascii refl refl refl refl

abbrev lexeme_of : (word integer double mark beyond : ℕ) → Piece
lexeme_of word integer double mark beyond =
    longer (record { class = Word; size = word })
    (longer (record { class = Integer; size = integer })
    (longer (record { class = Double; size = double })
    (longer (record { class = Mark; size = mark })
    (longer (record { class = BeyondAscii; size = beyond }) (record { class = IllegalCharacter; size = 1 })))))

-- the lexeme is the same, where all bytes of it are shared
pub lexeme-alike : {n : ℕ} (text other : List ℕ) → Alike n text other → (lexeme_at text).size ≤ n → lexeme_at other ≡ lexeme_at text
lexeme-alike {n = n} text other a h =
    let most : integer_size text ≤ n = omega (arith, h, integer-longest text) in
    let words : word_size other ≡ word_size text = word-alike text other a (omega (arith, h, word-longest text)) in
    let integers : integer_size other ≡ integer_size text = integer-alike text other a most in
    let doubles : double_size other ≡ double_size text = double-alike text other a (omega (arith, most)) (omega (arith, h, double-longest text)) in
    let found : mark_size other ≡ mark_size text = mark-alike text other a (omega (arith, h, mark-longest text)) in
    let beyond : run is_beyond_ascii other ≡ run is_beyond_ascii text = run-alike is_beyond_ascii beyond-solid text other a (omega (arith, h, beyond-longest text)) in
    ap (λ (x : ℕ). lexeme_of x (integer_size other) (double_size other) (mark_size other) (run is_beyond_ascii other)) words
    ∙ ap (λ (x : ℕ). lexeme_of (word_size text) x (double_size other) (mark_size other) (run is_beyond_ascii other)) integers
    ∙ ap (λ (x : ℕ). lexeme_of (word_size text) (integer_size text) x (mark_size other) (run is_beyond_ascii other)) doubles
    ∙ ap (λ (x : ℕ). lexeme_of (word_size text) (integer_size text) (double_size text) x (run is_beyond_ascii other)) found
    ∙ ap (λ (x : ℕ). lexeme_of (word_size text) (integer_size text) (double_size text) (mark_size text) x) beyond
