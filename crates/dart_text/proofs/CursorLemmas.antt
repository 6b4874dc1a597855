-- Where a cursor stands, and what lies at an offset that it was moved to.
use Rattle.std.proofs.Common.{◌≡◌, ◌≢◌, ℕ, zero, suc, ◌+◌, ◌-◌, ◌/◌, ◌%◌, ◌<◌, ◌≤◌, ◌⊎◌, inl, inr, true, false, not, List, [], ◌∷◌, ◌++◌, length, take, drop, IsUtf8, IsCharBoundary, slice_get, sym, ap, ◌∙◌, subst, arith, append_assoc, length-append, length-drop, take-append-drop, take_at, drop_at}
use Rattle.std.specs.Option.{option_map_or}
use Rattle.std.specs.List.{suffix_len}
use Rattle.std.specs.Char.{len_utf8}
use Rattle.std.specs.Char.Escape.{encode_utf16}
use Rattle.std.specs.Char.Utf16.{is_low_surrogate}
use Rattle.std.proofs.lemmas.Bool.{and_parts, cases_lt, cases_eq, le-leb, lt-leb, lt-ltb, le-ltb}
use Rattle.std.proofs.lemmas.Grind.{common_steps}
use Rattle.std.proofs.lemmas.List.{append_cancel_right, length-take-le, length_push, take_all}
use Rattle.std.proofs.lemmas.List.Sums.{count_by-le-length}
use Rattle.std.proofs.lemmas.Str.{IsUtf8-take, IsUtf8-drop, IsCharBoundary-start, IsCharBoundary-past_char, drop_past_char, length-encode, len_utf8_bounds}
use lib.Utf8.{scalar, scalars, encode, encodes, scalar_cases}
use Rattle.dart_text.specs.Units.{units_of, splits_pair}
use Rattle.dart_text.specs.Lines.{is_line_feed, position_after, position_of}
use Rattle.dart_text.specs.Cursors.{IsAt, IsOn}
use Rattle.dart_text.specs.declared.cursor.Cursor.{Cursor}
use Rattle.dart_text.proofs.UnitLemmas.{one_unit, two_units, units_of-append, units_of-char, units_of-nil, units_within}

-- how many units a character has, as std says it
pub length-encode_utf16 : (c n : ℕ) → (c < 0x1_0000 → n ≡ 1) → (0x1_0000 ≤ c → n ≡ 2) → n ≡ length (encode_utf16 c)
length-encode_utf16 c n short long = elim (cases_lt c 0x1_0000) [
  | inl low ↦ short low ∙ sym (ap length (one_unit c low))
  | inr high ↦ long high ∙ sym (ap length (two_units c high))
]

-- a line and a column are at most one more than the units before them
pub line_within : (front : List ℕ) → (position_after front).line ≤ 1 + length front
line_within front = omega (arith, count_by-le-length is_line_feed front)

pub column_within : (front : List ℕ) → (position_after front).column ≤ 1 + length front
column_within front = omega (arith, length-drop (length front - suffix_len (λ unit. not (is_line_feed unit)) front) front)

-- a unit that is no line feed is one more column
pub position_after-push : (front : List ℕ) (unit : ℕ) → unit ≢ 10 → position_after (front ++ unit ∷ []) ≡ record { line = (position_after front).line; column = (position_after front).column + 1 }
position_after-push front unit other = grind (arith, common_steps)

-- the start of a text
pub on_start : (text : List ℕ) → IsUtf8 text → IsOn text (record { bytes = 0; units = 0; position = record { line = 1; column = 1 } })
on_start text u = record {
  between = IsCharBoundary-start text u;
  units = sym (ap length units_of-nil);
  position = sym (ap position_after units_of-nil);
}

module _ (text : List ℕ) (u : IsUtf8 text) where
  -- the units of a text that is cut between two characters
  pub units_cut : (n : ℕ) → IsCharBoundary text n → units_of text ≡ units_of (take n text) ++ units_of (drop n text)
  units_cut n between = ap units_of (sym (take-append-drop n text)) ∙ units_of-append (take n text) (drop n text) (IsUtf8-take text n u between)

  -- the units before a character, and its own
  units_past : (n c : ℕ) (rest : List ℕ) → IsCharBoundary text n → drop n text ≡ encode c ++ rest → units_of (take (n + len_utf8 c) text) ≡ units_of (take n text) ++ encode_utf16 c
  units_past n c rest between here =
      append_cancel_right _ _ (units_of rest) (
      ap (λ l. units_of (take (n + len_utf8 c) text) ++ units_of l) (sym (drop_past_char text rest n c here))
      ∙ sym (units_cut (n + len_utf8 c) (IsCharBoundary-past_char text rest n c between.0 (IsUtf8-drop text n u between) here))
      ∙ units_cut n between
      ∙ ap (λ l. units_of (take n text) ++ l) (units_of-char (drop n text) rest c (IsUtf8-drop text n u between) here)
      ∙ sym (append_assoc (units_of (take n text)) (encode_utf16 c) (units_of rest))
      )

  module _ (cursor : Cursor) (on : IsOn text cursor) where
    -- a cursor has counted at most as many units as bytes
    pub units_bounded : cursor.units ≤ cursor.bytes
    units_bounded = omega (arith, on.units, units_within (take cursor.bytes text) (IsUtf8-take text cursor.bytes u on.between), length-take-le cursor.bytes text on.between.0)

    pub line_bounded : cursor.position.line ≤ 1 + cursor.units
    line_bounded = omega (arith, ap (λ p. p.line) on.position, line_within (units_of (take cursor.bytes text)), on.units)

    pub column_bounded : cursor.position.column ≤ 1 + cursor.units
    column_bounded = omega (arith, ap (λ p. p.column) on.position, column_within (units_of (take cursor.bytes text)), on.units)

    -- the cursor behind a character
    pub on_past : (next : Cursor) (c : ℕ) (rest : List ℕ) → drop cursor.bytes text ≡ encode c ++ rest → next.bytes ≡ cursor.bytes + len_utf8 c
        → next.units ≡ cursor.units + length (encode_utf16 c) → next.position ≡ position_after (units_of (take cursor.bytes text) ++ encode_utf16 c) → IsOn text next
    on_past next c rest here bytes units position =
        let taken : units_of (take next.bytes text) ≡ units_of (take cursor.bytes text) ++ encode_utf16 c =
        ap (λ n. units_of (take n text)) bytes ∙ units_past cursor.bytes c rest on.between here in
        record {
          between = subst (IsCharBoundary text) (sym bytes) (IsCharBoundary-past_char text rest cursor.bytes c on.between.0 (IsUtf8-drop text cursor.bytes u on.between) here);
          units = omega (arith, on.units, ap length taken, length-append (units_of (take cursor.bytes text)) (encode_utf16 c));
          position = position ∙ ap position_after (sym taken);
        }

-- what stands in the second of two lists
slice_get-append : (xs ys : List ℕ) (n k : ℕ) → n ≡ length xs + k → slice_get (xs ++ ys) n ≡ slice_get ys k
slice_get-append [] ys n k at = ap (slice_get ys) (omega arith)
slice_get-append (x ∷ xs) ys zero k at = absurd (omega arith)
slice_get-append (x ∷ xs) ys (suc n) k at = slice_get-append xs ys n k (omega arith)

-- What lies at an offset: the place between two characters where the cursor stands; nothing, past the end of the text; or the inside of the pair behind the cursor.
pub data Lies (text : List ℕ) (offset : ℕ) (cursor : Cursor) : Type 0 where
  between : cursor.units ≡ offset → Lies text offset cursor
  past_end : cursor.bytes ≡ length text → cursor.units < offset → Lies text offset cursor
  inside : (high low : ℕ) (more : List ℕ) → cursor.bytes < length text → cursor.units + 1 ≡ offset → high ≢ 10 → is_low_surrogate low ≡ true
      → units_of (drop cursor.bytes text) ≡ high ∷ low ∷ more → Lies text offset cursor

-- the first unit of a character is not the second of a pair
first_of_one : (c : ℕ) → (c < 0xD800) ⊎ (0xE000 ≤ c) → is_low_surrogate c ≡ false
first_of_one c apart = elim apart [
  | inl low ↦ rw (lt-leb 0xDC00 c (omega arith))
  | inr high ↦ rw (le-leb 0xDC00 c (omega arith), le-ltb c 0xE000 high)
]

first_of_two : (c : ℕ) → c < 0x11_0000 → is_low_surrogate (0xD800 + (c - 0x1_0000) / 0x400) ≡ false
first_of_two c fits = rw (lt-leb 0xDC00 (0xD800 + (c - 0x1_0000) / 0x400) (omega arith))

pub second_of_two : (c : ℕ) → is_low_surrogate (0xDC00 + (c - 0x1_0000) % 0x400) ≡ true
second_of_two c = rw (le-leb 0xDC00 (0xDC00 + (c - 0x1_0000) % 0x400) (omega arith), lt-ltb (0xDC00 + (c - 0x1_0000) % 0x400) 0xE000 (omega arith))

module _ (text : List ℕ) (u : IsUtf8 text) (offset : ℕ) (cursor : Cursor) (at : IsAt text offset cursor) where
  rest_utf8 : IsUtf8 (drop cursor.bytes text)
  rest_utf8 = IsUtf8-drop text cursor.bytes u at.on.between

  lies_from : (cs : List ℕ) → scalars cs ≡ true → encodes cs ≡ drop cursor.bytes text → Lies text offset cursor
  lies_from [] ok spelt =
      let all : cursor.bytes ≡ length text = omega (arith, at.on.between.0, ap length spelt, length-drop cursor.bytes text) in
      elim (cases_lt cursor.units offset) [
        | inl past ↦ past_end all past
        | inr reached ↦ between (omega (arith, at.reached))
      ]
  lies_from (c ∷ cs) ok spelt =
      let more : cursor.bytes < length text = omega (arith, ap length spelt, length-append (encode c) (encodes cs), length-encode c, len_utf8_bounds c, length-drop cursor.bytes text) in
      let before : offset < cursor.units + length (encode_utf16 c) = at.last c (encodes cs) (sym spelt) in
      elim (cases_eq cursor.units offset) [
        | inl here ↦ between here
        | inr other ↦ elim (cases_lt c 0x1_0000) [
          | inl one ↦ absurd (omega (arith, at.reached, ap length (one_unit c one)))
          | inr two ↦
              inside _ _ (units_of (encodes cs)) more (omega (arith, at.reached, ap length (two_units c two))) (omega arith) (second_of_two c)
              (units_of-char (drop cursor.bytes text) (encodes cs) c rest_utf8 (sym spelt) ∙ ap (λ l. l ++ units_of (encodes cs)) (two_units c two))
        ]
      ]

  pub lies : Lies text offset cursor
  lies = lies_from rest_utf8.0 rest_utf8.1.0 rest_utf8.1.1

  -- the place between two characters splits no pair
  starts_no_pair : (cs : List ℕ) → scalars cs ≡ true → encodes cs ≡ drop cursor.bytes text → option_map_or is_low_surrogate (slice_get (units_of (drop cursor.bytes text)) 0) false ≡ false
  starts_no_pair [] ok spelt = ap (λ l. option_map_or is_low_surrogate (slice_get (units_of l) 0) false) (sym spelt) ∙ ap (λ l. option_map_or is_low_surrogate (slice_get l 0) false) units_of-nil
  starts_no_pair (c ∷ cs) ok spelt =
      let parts = and_parts (scalar c) (scalars cs) ok in
      let units = units_of-char (drop cursor.bytes text) (encodes cs) c rest_utf8 (sym spelt) in
      elim (cases_lt c 0x1_0000) [
        | inl one ↦
            ap (λ l. option_map_or is_low_surrogate (slice_get l 0) false) (units ∙ ap (λ l. l ++ units_of (encodes cs)) (one_unit c one))
            ∙ first_of_one c (elim (scalar_cases c parts.0) [ inl low ↦ inl low | inr high ↦ inr high.0 ])
        | inr two ↦
            ap (λ l. option_map_or is_low_surrogate (slice_get l 0) false) (units ∙ ap (λ l. l ++ units_of (encodes cs)) (two_units c two))
            ∙ first_of_two c (elim (scalar_cases c parts.0) [ inl low ↦ omega arith | inr high ↦ high.1 ])
      ]

  -- what stands at the offset
  unit_at : (k : ℕ) → offset ≡ cursor.units + k → slice_get (units_of text) offset ≡ slice_get (units_of (drop cursor.bytes text)) k
  unit_at k more =
      ap (λ l. slice_get l offset) (units_cut text u cursor.bytes at.on.between)
      ∙ slice_get-append (units_of (take cursor.bytes text)) (units_of (drop cursor.bytes text)) offset k (omega (arith, at.on.units))

  pub splits_none : cursor.units ≡ offset → splits_pair offset (units_of text) ≡ false
  splits_none here =
      ap (λ o. option_map_or is_low_surrogate o false) (unit_at 0 (omega arith)) ∙ starts_no_pair rest_utf8.0 rest_utf8.1.0 rest_utf8.1.1

  pub splits_inside : cursor.bytes < length text → cursor.units < offset → splits_pair offset (units_of text) ≡ true
  splits_inside more past = elim lies [
    | between here ↦ absurd (omega arith)
    | past_end all beyond ↦ absurd (omega arith)
    | inside high low rest within here other second units ↦
        ap (λ o. option_map_or is_low_surrogate o false) (unit_at 1 (omega arith) ∙ ap (λ l. slice_get l 1) units) ∙ second
  ]

  -- what stands before the offset, and behind it
  pub units_before : cursor.units ≡ offset → take offset (units_of text) ≡ units_of (take cursor.bytes text)
  units_before here = ap (take offset) (units_cut text u cursor.bytes at.on.between) ∙ take_at (units_of (take cursor.bytes text)) (units_of (drop cursor.bytes text)) offset (omega (arith, at.on.units))

  pub units_behind : cursor.units ≡ offset → drop offset (units_of text) ≡ units_of (drop cursor.bytes text)
  units_behind here = ap (drop offset) (units_cut text u cursor.bytes at.on.between) ∙ drop_at (units_of (take cursor.bytes text)) (units_of (drop cursor.bytes text)) offset (omega (arith, at.on.units))

  -- at the end of the text all units are counted
  pub all_units : cursor.bytes ≡ length text → cursor.units ≡ length (units_of text)
  all_units all = at.on.units ∙ ap (λ l. length (units_of l)) (take_all cursor.bytes text (omega arith))

  -- an offset that isn't past the end is at most the length
  pub offset_within : (cursor.bytes ≡ length text → cursor.units < offset → ⊥) → offset ≤ length (units_of text)
  offset_within short =
      let cut = ap length (units_cut text u cursor.bytes at.on.between) ∙ length-append (units_of (take cursor.bytes text)) (units_of (drop cursor.bytes text)) in
      elim lies [
        | between here ↦ omega (arith, at.on.units)
        | past_end all beyond ↦ absurd (short all beyond)
        | inside high low rest within here other second units ↦ omega (arith, at.on.units, ap length units)
      ]

  -- the position of the offset, where the cursor stands there
  pub position_here : (cursor.bytes < length text → cursor.units < offset → ⊥) → cursor.position ≡ position_of offset text
  unfolding position_of
  position_here apart = elim lies [
    | between here ↦ at.on.position ∙ ap position_after (sym (units_before here))
    | past_end all beyond ↦
        at.on.position ∙ ap (λ l. position_after (units_of l)) (take_all cursor.bytes text (omega arith))
        ∙ ap position_after (sym (take_all offset (units_of text) (omega (arith, all_units all))))
    | inside high low rest within here other second units ↦ absurd (apart within (omega arith))
  ]

  -- the position of an offset inside the pair behind the cursor
  pub position_inside : cursor.bytes < length text → cursor.units < offset → record { line = cursor.position.line; column = cursor.position.column + 1 } ≡ position_of offset text
  unfolding position_of
  position_inside more past = elim lies [
    | between here ↦ absurd (omega arith)
    | past_end all beyond ↦ absurd (omega arith)
    | inside high low rest within here other second units ↦
        let front = units_of (take cursor.bytes text) in
        let taken : take offset (units_of text) ≡ front ++ high ∷ [] =
        ap (take offset) (units_cut text u cursor.bytes at.on.between ∙ ap (λ l. front ++ l) units ∙ sym (append_assoc front (high ∷ []) (low ∷ rest)))
        ∙ take_at (front ++ high ∷ []) (low ∷ rest) offset (omega (arith, at.on.units, length_push front high)) in
        ap (λ p. record { line = p.line; column = p.column + 1 }) at.on.position ∙ sym (position_after-push front high other) ∙ ap position_after (sym taken)
  ]
