-- The code units of texts that are put together, and how many they are.
use Rattle.std.proofs.Common.{◌≡◌, ℕ, ◌+◌, ◌-◌, ◌/◌, ◌%◌, ◌<◌, ◌≤◌, ◌⊎◌, inl, inr, true, List, [], ◌∷◌, ◌++◌, map, length, IsUtf8, Some, refl, sym, ap, ◌∙◌, arith, length-append}
use Rattle.std.specs.Option.{unwrap_or}
use Rattle.std.specs.List.{flat_map}
use Rattle.std.specs.Str.{chars}
use Rattle.std.specs.Char.{IsScalar, len_utf8}
use Rattle.std.specs.Char.Escape.{encode_utf16}
use Rattle.std.specs.Char.Utf16.{utf16_chars, utf16_lossy_chars, lone_unit_char}
use Rattle.std.proofs.lemmas.Bool.{and_parts, cases_lt, lt-ltb, le-ltb, lt-leb, le-leb}
use Rattle.std.proofs.lemmas.Grind.{common_steps}
use Rattle.std.proofs.lemmas.List.Concat.{flat_map-append}
use Rattle.std.proofs.lemmas.List.Sums.{sum_by-append}
use Rattle.std.proofs.lemmas.Str.{chars-append, chars-nil, chars_past_char, encode_ascii, encodes-chars, scalars-chars, length-encode, utf16_chars-nil, utf16_chars_lone, utf16_chars_pair}
use lib.Utf8.{scalar, scalars, encode, encodes, scalar_cases}
use Rattle.plain_text.specs.Units.{units_of_byte, units_in}
use Rattle.dart_text.specs.Units.{units_of, text_of}

-- the units of two texts, one behind the other
pub units_of-append : (xs ys : List ℕ) → IsUtf8 xs → units_of (xs ++ ys) ≡ units_of xs ++ units_of ys
unfolding units_of
units_of-append xs ys u = ap (flat_map encode_utf16) (chars-append xs ys u) ∙ flat_map-append encode_utf16 (chars xs) (chars ys)

-- those of no text
pub units_of-nil : units_of [] ≡ []
unfolding units_of
units_of-nil = ap (flat_map encode_utf16) chars-nil

-- those of a text that begins with a character
pub units_of-char : (bs rest : List ℕ) (c : ℕ) → IsUtf8 bs → bs ≡ encode c ++ rest → units_of bs ≡ encode_utf16 c ++ units_of rest
unfolding units_of
units_of-char bs rest c u e = ap (flat_map encode_utf16) (chars_past_char bs rest c u e)

-- a character of one unit, and one of two
pub one_unit : (c : ℕ) → c < 0x1_0000 → encode_utf16 c ≡ c ∷ []
one_unit c h = rw (lt-ltb c 0x1_0000 h)

pub two_units : (c : ℕ) → 0x1_0000 ≤ c → encode_utf16 c ≡ (0xD800 + (c - 0x1_0000) / 0x400) ∷ (0xDC00 + (c - 0x1_0000) % 0x400) ∷ []
two_units c h = rw (le-ltb c 0x1_0000 h)

-- a character has at most as many units as bytes
pub char_within : (c : ℕ) → length (encode_utf16 c) ≤ len_utf8 c
char_within c = grind (arith, common_steps)

-- a byte that begins a character of three bytes or fewer, one that begins one of four, and one that continues any
begins_short : (byte : ℕ) → 192 ≤ byte → byte < 240 → units_of_byte byte ≡ 1
begins_short byte low high = grind (arith, common_steps)

begins_long : (byte : ℕ) → 240 ≤ byte → units_of_byte byte ≡ 2
begins_long byte low = grind (arith, common_steps)

continues : (bits : ℕ) → units_of_byte (128 + bits % 64) ≡ 0
continues bits = rw (le-ltb (128 + bits % 64) 128 (omega arith), lt-ltb (128 + bits % 64) 192 (omega arith))

-- the bytes of a character of two, three and four
two_bytes : (c : ℕ) → 128 ≤ c → c < 2048 → encode c ≡ (192 + c / 64) ∷ (128 + c % 64) ∷ []
unfolding encode
two_bytes c low high = rw (le-ltb c 128 low, lt-ltb c 2048 high)

three_bytes : (c : ℕ) → 2048 ≤ c → c < 65536 → encode c ≡ (224 + c / 4096) ∷ (128 + c / 64 % 64) ∷ (128 + c % 64) ∷ []
unfolding encode
three_bytes c low high = rw (le-ltb c 128 (omega arith), le-ltb c 2048 low, lt-ltb c 65536 high)

four_bytes : (c : ℕ) → 65536 ≤ c → encode c ≡ (240 + c / 262144) ∷ (128 + c / 4096 % 64) ∷ (128 + c / 64 % 64) ∷ (128 + c % 64) ∷ []
unfolding encode
four_bytes c low = rw (le-ltb c 128 (omega arith), le-ltb c 2048 (omega arith), le-ltb c 65536 low)

-- the bytes of a character tell how many units it has
counts_short : (c : ℕ) → c < 65536 → units_in (encode c) ≡ 1
counts_short c high = elim (cases_lt c 128) [
  | inl ascii ↦ ap units_in (encode_ascii c ascii) ∙ grind (arith, common_steps)
  | inr low ↦ elim (cases_lt c 2048) [
    | inl two ↦ ap units_in (two_bytes c low two) ∙ omega (arith, begins_short (192 + c / 64) (omega arith) (omega arith), continues c)
    | inr three ↦ ap units_in (three_bytes c three high) ∙ omega (arith, begins_short (224 + c / 4096) (omega arith) (omega arith), continues (c / 64), continues c)
  ]
]

counts_long : (c : ℕ) → 65536 ≤ c → units_in (encode c) ≡ 2
counts_long c low =
    ap units_in (four_bytes c low) ∙ omega (arith, begins_long (240 + c / 262144) (omega arith), continues (c / 4096), continues (c / 64), continues c)

char_counts : (c : ℕ) → units_in (encode c) ≡ length (encode_utf16 c)
char_counts c = elim (cases_lt c 0x1_0000) [
  | inl short ↦ counts_short c short ∙ sym (ap length (one_unit c short))
  | inr long ↦ counts_long c long ∙ sym (ap length (two_units c long))
]

-- so a text has as many units as are counted over its bytes
all_counted : (cs : List ℕ) → length (flat_map encode_utf16 cs) ≡ units_in (encodes cs)
all_counted [] = refl
all_counted (c ∷ cs) =
    length-append (encode_utf16 c) (flat_map encode_utf16 cs)
    ∙ omega (arith, char_counts c, all_counted cs, sum_by-append units_of_byte (encode c) (encodes cs))

pub units_counted : (bs : List ℕ) → IsUtf8 bs → length (units_of bs) ≡ units_in bs
unfolding units_of
units_counted bs u = all_counted (chars bs) ∙ ap units_in (encodes-chars bs u)

-- and at most as many as it has bytes
all_within : (cs : List ℕ) → length (flat_map encode_utf16 cs) ≤ length (encodes cs)
all_within [] = omega arith
all_within (c ∷ cs) =
    omega (arith, length-append (encode_utf16 c) (flat_map encode_utf16 cs), length-append (encode c) (encodes cs), char_within c, length-encode c, all_within cs)

pub units_within : (bs : List ℕ) → IsUtf8 bs → length (units_of bs) ≤ length bs
unfolding units_of
units_within bs u = omega (arith, all_within (chars bs), ap length (encodes-chars bs u))

-- a unit outside the surrogates is a character by itself
lone : (unit : ℕ) → (unit < 0xD800) ⊎ (0xE000 ≤ unit) → lone_unit_char unit ≡ Some unit
lone unit apart = elim apart [
  | inl low ↦ rw (lt-leb 0xD800 unit low)
  | inr high ↦ rw (le-leb 0xD800 unit (omega arith), le-ltb unit 0xE000 high)
]

-- the units of a character, and others, spell the character and what these others spell
one_spelt : (c : ℕ) (us : List ℕ) → c < 0x1_0000 → (c < 0xD800) ⊎ (0xE000 ≤ c) → utf16_chars (encode_utf16 c ++ us) ≡ Some c ∷ utf16_chars us
one_spelt c us short apart =
    ap (λ units. utf16_chars (units ++ us)) (one_unit c short)
    ∙ utf16_chars_lone c us (λ pair. elim apart [ inl low ↦ omega arith | inr high ↦ omega arith ])
    ∙ ap (λ o. o ∷ utf16_chars us) (lone c apart)

two_spelt : (c : ℕ) (us : List ℕ) → 0x1_0000 ≤ c → c < 0x11_0000 → utf16_chars (encode_utf16 c ++ us) ≡ Some c ∷ utf16_chars us
two_spelt c us long fits =
    ap (λ units. utf16_chars (units ++ us)) (two_units c long)
    ∙ utf16_chars_pair _ _ us (omega arith, omega arith, omega arith, omega arith)
    ∙ ap (λ char. Some char ∷ utf16_chars us) (omega arith)

char_spelt : (c : ℕ) (us : List ℕ) → IsScalar c → utf16_chars (encode_utf16 c ++ us) ≡ Some c ∷ utf16_chars us
char_spelt c us ok = elim (scalar_cases c ok) [
  | inl low ↦ one_spelt c us (omega arith) (inl low)
  | inr high ↦ elim (cases_lt c 0x1_0000) [
    | inl short ↦ one_spelt c us short (inr high.0)
    | inr long ↦ two_spelt c us long high.1
  ]
]

pub all_spelt : (cs : List ℕ) → scalars cs ≡ true → utf16_lossy_chars (flat_map encode_utf16 cs) ≡ cs
all_spelt [] ok = ap (map (λ o. unwrap_or o 0xFFFD)) utf16_chars-nil
all_spelt (c ∷ cs) ok =
    let parts = and_parts (scalar c) (scalars cs) ok in
    ap (map (λ o. unwrap_or o 0xFFFD)) (char_spelt c (flat_map encode_utf16 cs) parts.0) ∙ ap (λ l. c ∷ l) (all_spelt cs parts.1)

-- the units of a text spell it
pub text_of-units_of : (bs : List ℕ) → IsUtf8 bs → text_of (units_of bs) ≡ bs
unfolding units_of text_of
text_of-units_of bs u = ap encodes (all_spelt (chars bs) (scalars-chars bs u)) ∙ encodes-chars bs u
