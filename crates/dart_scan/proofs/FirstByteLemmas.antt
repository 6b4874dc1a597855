-- What the first byte of a text says of its first piece.
use Rattle.std.proofs.Common.{◌≡◌, ◌⊎◌, inl, inr, ℕ, ◌+◌, ◌<◌, ◌≤◌, ◌==◌, ◌&&◌, ◌||◌, not, Bool, true, false, List, [], ◌∷◌, length, take, drop, max, get_or, slice_index, codes, nat_lt, nat_le, if◌then◌else◌, Option, Some, None, refl, sym, ap, ◌∙◌, subst, arith}
use Rattle.std.specs.List.{list_all}
use Rattle.std.specs.Option.{option_map_or}
use Rattle.std.proofs.lemmas.Bool.{false≢true, and_parts, or_parts, or_cases, cases_Bool, cond-true, cond-false, eqb-true, eq-eqb, leb-true, lt-ltb, le-ltb, ne_eqb}
use Rattle.std.proofs.lemmas.Bool.Decides.{nat_tests}
use Rattle.std.proofs.lemmas.List.Sums.{take_while-cons}
use Rattle.dart_tokens.specs.declared.token.Kind.{Kind}
use Rattle.dart_tokens.specs.Marks.{marks, first_among}
use Rattle.dart_scan.specs.declared.piece.Class.TheVariants.{Gap, Word, Integer, Double, Mark, BeyondAscii, IllegalCharacter}
use Rattle.dart_scan.specs.declared.piece.Piece.{Piece}
use Rattle.dart_scan.specs.Characters.{is_blank, is_digit, is_hexadecimal_digit, is_identifier_start, is_identifier_part, is_beyond_ascii, is_within_line}
use Rattle.dart_scan.specs.Lexemes.{begins, run, word_size, hexadecimal_size, integer_size, fraction_size, exponent_size, double_size, mark_size}
use Rattle.dart_scan.specs.Strings.{string_form}
use Rattle.dart_scan.specs.Pieces.{longer, comment_piece, lexeme_at, piece_at}

-- A byte of a class is none that isn't of it.
at_other : (class : ℕ → Bool) (byte other : ℕ) → class byte ≡ true → class other ≡ false → (other == byte) ≡ false
at_other class byte other is isnt = ne_eqb other byte (λ same. false≢true (sym isnt ∙ (ap class same ∙ is)))

other_way : (byte other : ℕ) → (byte == other) ≡ false → (other == byte) ≡ false
other_way byte other isnt = ne_eqb other byte (λ same. false≢true (sym isnt ∙ eq-eqb byte other (sym same)))

not_begins : (byte : ℕ) (bytes : List ℕ) (first : ℕ) (text : List ℕ) → (byte == first) ≡ false → begins (first ∷ text) (byte ∷ bytes) ≡ false
not_begins byte bytes first text isnt = ap (λ (b : Bool). b && begins text bytes) isnt

no_run : (class : ℕ → Bool) (first : ℕ) (text : List ℕ) → class first ≡ false → run class (first ∷ text) ≡ 0
no_run class first text isnt = ap length (take_while-cons class first text ∙ cond-false (class first) _ _ isnt)

longer_second : (a b : Piece) → a.size ≡ 0 → 1 ≤ b.size → longer a b ≡ b
longer_second a b none some = cond-true (nat_lt a.size b.size) b a (lt-ltb a.size b.size (omega (arith, none, some)))

longer_first : (a b : Piece) → b.size ≤ a.size → longer a b ≡ a
longer_first a b most = cond-false (nat_lt a.size b.size) b a (le-ltb a.size b.size most)

longer_least : (a b : Piece) → 1 ≤ b.size → 1 ≤ (longer a b).size
longer_least a b some = grind (arith, nat_tests)

-- A mark begins with a byte that isn't of a class.
abbrev begins_beside : (ℕ → Bool) → List ℕ → Bool
begins_beside class [] = false
begins_beside class (byte ∷ bytes) = not (class byte)

not_true : (b : Bool) → not b ≡ true → b ≡ false
not_true true is = sym is
not_true false is = refl

no_mark : (class : ℕ → Bool) (rows : List (List ℕ × Kind)) (first : ℕ) (text : List ℕ) → class first ≡ true → list_all (λ (row : List ℕ × Kind). begins_beside class row.0) rows ≡ true → first_among rows (first ∷ text) ≡ None
no_mark class [] first text is all = refl
no_mark class (([], kind) ∷ more) first text is all = absurd (false≢true all)
no_mark class ((byte ∷ bytes, kind) ∷ more) first text is all =
    let parts = and_parts (not (class byte)) (list_all (λ (row : List ℕ × Kind). begins_beside class row.0) more) all in
    cond-false (begins (first ∷ text) (byte ∷ bytes)) _ _ (not_begins byte bytes first text (at_other class first byte is (not_true (class byte) parts.0))) ∙ no_mark class more first text is parts.1

-- No number begins with a byte that is no digit and no `.`.
no_integer : (first : ℕ) (text : List ℕ) → is_digit first ≡ false → integer_size (first ∷ text) ≡ 0
no_integer first text isnt =
    let all : List ℕ = first ∷ text in
    let zero : (48 == first) ≡ false = ne_eqb 48 first (λ same. false≢true (sym isnt ∙ ap is_digit (sym same))) in
    let neither : (begins all (codes "0x") || begins all (codes "0X")) ≡ false =
    ap (λ (b : Bool). b || begins all (codes "0X")) (not_begins 48 (codes "x") first text zero) ∙ not_begins 48 (codes "X") first text zero in
    let hexadecimal : hexadecimal_size all ≡ 0 = cond-false (begins all (codes "0x") || begins all (codes "0X")) _ _ neither in
    omega (arith, no_run is_digit first text isnt, hexadecimal)

-- how long a double is behind so many digits
abbrev double_from : List ℕ → (whole : ℕ) → ℕ
double_from text whole =
    let fraction = fraction_size (drop whole text) in
    let exponent = exponent_size (drop (whole + fraction) text) in
    if fraction == 0 && (whole == 0 || exponent == 0) then 0 else whole + (fraction + exponent)

abbrev double_of : List ℕ → (fraction : ℕ) → ℕ
double_of text fraction = let exponent = exponent_size (drop (0 + fraction) text) in if fraction == 0 && (0 == 0 || exponent == 0) then 0 else 0 + (fraction + exponent)

no_double : (first : ℕ) (text : List ℕ) → is_digit first ≡ false → (46 == first) ≡ false → double_size (first ∷ text) ≡ 0
no_double first text isnt period =
    let all : List ℕ = first ∷ text in
    let fraction : fraction_size all ≡ 0 = cond-false (begins all (codes ".")) _ _ (not_begins 46 [] first text period) in
    ap (double_from all) (no_run is_digit first text isnt) ∙ ap (double_of all) fraction

-- What begins an identifier is no digit, no blank and nothing beyond ASCII.
record Letter (byte : ℕ) : Type 0 where
  small : byte < 128
  apart : (byte < 48) ⊎ (57 < byte)
  high : 36 ≤ byte

within : (low high byte : ℕ) → (nat_le low byte && nat_le byte high) ≡ true → (low ≤ byte) × (byte ≤ high)
within low high byte is = let parts = and_parts _ _ is in (leb-true low byte parts.0, leb-true byte high parts.1)

letter_between : (low high byte : ℕ) → 58 ≤ low → high < 128 → (low ≤ byte) × (byte ≤ high) → Letter byte
letter_between low high byte least most is = record {
  small = omega (arith, most, is.1);
  apart = inr (omega (arith, least, is.0));
  high = omega (arith, least, is.0);
}

letter : (byte : ℕ) → is_identifier_start byte ≡ true → Letter byte
letter byte is = elim (or_cases _ _ is) [
  | inl upper ↦ letter_between 65 90 byte (omega arith) (omega arith) (within 65 90 byte upper)
  | inr more ↦ elim (or_cases _ _ more) [
    | inl lower ↦ letter_between 97 122 byte (omega arith) (omega arith) (within 97 122 byte lower)
    | inr other ↦ elim (or_cases _ _ other) [
      | inl line ↦ letter_between 95 95 byte (omega arith) (omega arith) (let same = eqb-true byte 95 line in (omega (arith, same), omega (arith, same)))
      | inr dollar ↦ (let same = eqb-true byte 36 dollar in
          record { small = omega (arith, same); apart = inl (omega (arith, same)); high = omega (arith, same) })
    ]
  ]
]

isnt : (class : ℕ → Bool) (byte : ℕ) → (class byte ≡ true → ⊥) → class byte ≡ false
isnt class byte never = elim (cases_Bool (class byte)) [
  | inl is ↦ absurd (never is)
  | inr fails ↦ fails
]

letter_no_digit : (byte : ℕ) → Letter byte → is_digit byte ≡ false
letter_no_digit byte of = isnt is_digit byte (λ is. let bounds = within 48 57 byte is in elim of.apart [
  | inl below ↦ omega (arith, below, bounds.0)
  | inr above ↦ omega (arith, above, bounds.1)
])

letter_no_beyond : (byte : ℕ) → Letter byte → is_beyond_ascii byte ≡ false
letter_no_beyond byte of = isnt is_beyond_ascii byte (λ is. let least = leb-true 128 byte is in omega (arith, least, of.small))

letter_no_blank : (byte : ℕ) → Letter byte → is_blank byte ≡ false
letter_no_blank byte of = isnt is_blank byte (λ is. elim (or_cases (byte == 32 || byte == 9) (byte == 10 || byte == 13) is) [
  | inl a ↦ elim (or_cases (byte == 32) (byte == 9) a) [
    | inl e ↦ (let same = eqb-true byte 32 e in omega (arith, same, of.high))
    | inr e ↦ (let same = eqb-true byte 9 e in omega (arith, same, of.high))
  ]
  | inr a ↦ elim (or_cases (byte == 10) (byte == 13) a) [
    | inl e ↦ (let same = eqb-true byte 10 e in omega (arith, same, of.high))
    | inr e ↦ (let same = eqb-true byte 13 e in omega (arith, same, of.high))
  ]
])

-- What stands behind a gap in the order of pieces.
no_gap : (first : ℕ) (text : List ℕ) → run is_blank (first ∷ text) ≡ 0 → (47 == first) ≡ false → piece_at false (first ∷ text) ≡ lexeme_at (first ∷ text)
no_gap first text blank slash =
    let all : List ℕ = first ∷ text in
    cond-false (nat_lt 0 (run is_blank all)) _ _ (ap (nat_lt 0) blank)
    ∙ (cond-false (begins all (codes "//")) _ _ (not_begins 47 (codes "/") first text slash) ∙ cond-false (begins all (codes "/*")) _ _ (not_begins 47 (codes "*") first text slash))

abbrev illegal : Piece
illegal = record { class = IllegalCharacter; size = 1 }

-- A word stands where one begins.
pub word_first : (text : List ℕ) → 0 < word_size text → piece_at false text ≡ record { class = Word; size = word_size text }
word_first [] some = absurd (omega (arith, some))
word_first (first ∷ text) some = elim (cases_Bool (is_identifier_start first)) [
  | inl is ↦ (
      let all : List ℕ = first ∷ text in
      let of : Letter first = letter first is in
      let digit : is_digit first ≡ false = letter_no_digit first of in
      let period : (46 == first) ≡ false = at_other is_identifier_start first 46 is refl in
      let beyond : run is_beyond_ascii all ≡ 0 = no_run is_beyond_ascii first text (letter_no_beyond first of) in
      let mark : mark_size all ≡ 0 = ap (λ (found : Option (Kind × ℕ)). option_map_or (λ (found : Kind × ℕ). found.1) found 0) (no_mark is_identifier_start marks first text is refl) in
      let b : longer (record { class = BeyondAscii; size = run is_beyond_ascii all }) illegal ≡ illegal = longer_second _ illegal beyond (omega arith) in
      let m : longer (record { class = Mark; size = mark_size all }) (longer (record { class = BeyondAscii; size = run is_beyond_ascii all }) illegal) ≡ illegal =
      ap (longer (record { class = Mark; size = mark_size all })) b ∙ longer_second _ illegal mark (omega arith) in
      let d : longer (record { class = Double; size = double_size all }) _ ≡ illegal =
      ap (longer (record { class = Double; size = double_size all })) m ∙ longer_second _ illegal (no_double first text digit period) (omega arith) in
      let i : longer (record { class = Integer; size = integer_size all }) _ ≡ illegal =
      ap (longer (record { class = Integer; size = integer_size all })) d ∙ longer_second _ illegal (no_integer first text digit) (omega arith) in
      no_gap first text (no_run is_blank first text (letter_no_blank first of)) (at_other is_identifier_start first 47 is refl)
      ∙ (ap (longer (record { class = Word; size = word_size all })) i ∙ longer_first (record { class = Word; size = word_size all }) illegal (omega (arith, some))))
  | inr fails ↦ (let none : word_size (first ∷ text) ≡ 0 = cond-false (is_identifier_start first) _ _ fails in absurd (omega (arith, none, some)))
]

-- White space stands where it begins.
pub blank_first : (text : List ℕ) → 0 < run is_blank text → piece_at false text ≡ record { class = Gap; size = run is_blank text }
blank_first text some = cond-true (nat_lt 0 (run is_blank text)) _ _ (lt-ltb 0 (run is_blank text) some)

-- A comment or a lexeme stands where no word begins and no white space.
pub comment_first : (text : List ℕ) → word_size text ≤ 0 → run is_blank text ≤ 0
    → piece_at false text ≡ (if begins text (codes "//") then record { class = Gap; size = 2 + run is_within_line (drop 2 text) } else (if begins text (codes "/*") then comment_piece text else lexeme_at text))
comment_first text word blank = cond-false (nat_lt 0 (run is_blank text)) _ _ (le-ltb 0 (run is_blank text) blank)

-- A mark stands where none of the others begins.
pub mark_first : (text : List ℕ) → 0 < length text → word_size text ≤ 0 → run is_blank text ≤ 0
    → (is_digit (slice_index text 0) || (slice_index text 0 == 46 || (slice_index text 0 == 47 || is_beyond_ascii (slice_index text 0)))) ≡ false
    → piece_at false text ≡ longer (record { class = Mark; size = mark_size text }) (record { class = IllegalCharacter; size = 1 })
mark_first [] some word blank beside = absurd (omega (arith, some))
mark_first (first ∷ text) some word blank beside =
    let all : List ℕ = first ∷ text in
    let digit = or_parts (is_digit first) (first == 46 || (first == 47 || is_beyond_ascii first)) beside in
    let period = or_parts (first == 46) (first == 47 || is_beyond_ascii first) digit.1 in
    let slash = or_parts (first == 47) (is_beyond_ascii first) period.1 in
    let beyond : run is_beyond_ascii all ≡ 0 = no_run is_beyond_ascii first text slash.1 in
    let b : longer (record { class = BeyondAscii; size = run is_beyond_ascii all }) illegal ≡ illegal = longer_second _ illegal beyond (omega arith) in
    let found : Piece = longer (record { class = Mark; size = mark_size all }) illegal in
    let least : 1 ≤ found.size = longer_least (record { class = Mark; size = mark_size all }) illegal (omega arith) in
    let m : longer (record { class = Mark; size = mark_size all }) (longer (record { class = BeyondAscii; size = run is_beyond_ascii all }) illegal) ≡ found = ap (longer (record { class = Mark; size = mark_size all })) b in
    let d : longer (record { class = Double; size = double_size all }) _ ≡ found =
    ap (longer (record { class = Double; size = double_size all })) m ∙ longer_second _ found (no_double first text digit.0 (other_way first 46 period.0)) least in
    let i : longer (record { class = Integer; size = integer_size all }) _ ≡ found =
    ap (longer (record { class = Integer; size = integer_size all })) d ∙ longer_second _ found (no_integer first text digit.0) least in
    no_gap first text (omega (arith, blank)) (other_way first 47 slash.0)
    ∙ (ap (longer (record { class = Word; size = word_size all })) i ∙ longer_second _ found (omega (arith, word)) least)

-- No string begins where its first byte doesn't.
pub no_string : (text : List ℕ) → (slice_index text 0 == 114 || (slice_index text 0 == 39 || slice_index text 0 == 34)) ≡ false → string_form text ≡ None
no_string [] none = refl
no_string (first ∷ text) none =
    let raw = or_parts (first == 114) (first == 39 || first == 34) none in
    let quote = or_parts (first == 39) (first == 34) raw.1 in
    let r : (114 == first) ≡ false = other_way first 114 raw.0 in
    let single : (39 == first) ≡ false = other_way first 39 quote.0 in
    let double : (34 == first) ≡ false = other_way first 34 quote.1 in
    cond-false _ _ _ (not_begins 114 (codes "'''") first text r) ∙ (cond-false _ _ _ (not_begins 114 (codes "\"\"\"") first text r)
    ∙ (cond-false _ _ _ (not_begins 39 (codes "''") first text single) ∙ (cond-false _ _ _ (not_begins 34 (codes "\"\"") first text double)
    ∙ (cond-false _ _ _ (not_begins 114 (codes "'") first text r) ∙ (cond-false _ _ _ (not_begins 114 (codes "\"") first text r)
    ∙ (cond-false _ _ _ (not_begins 39 [] first text single) ∙ cond-false _ _ _ (not_begins 34 [] first text double)))))))

pub no_string_at_end : (text : List ℕ) → length text ≤ 0 → string_form text ≡ None
no_string_at_end [] none = refl
no_string_at_end (first ∷ text) none = absurd (omega (arith, none))
