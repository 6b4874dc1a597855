-- The text of pieces, and an edit of the middle of a text.
use Rattle.std.proofs.Common.{◌≡◌, ℕ, ◌+◌, ◌-◌, ◌<◌, ◌≤◌, ◌^◌, min, List, [], ◌∷◌, ◌++◌, inl, inr, length, get_or, take, drop, IsUtf8, Result, Ok, Err, string_bytes, refl, sym, ap, ◌∙◌, subst, arith, append_assoc, length-append, length-drop}
use Rattle.std.specs.List.{flat_map, replace_range, slice_range, splice}
use Rattle.std.specs.declared.ops.Range.{Range}
use Rattle.std.specs.Char.Escape.{encode_utf16}
use Rattle.std.proofs.Math.Seq.{take-append-add, drop-append-add}
use Rattle.std.proofs.lemmas.Bool.{cases_lt, le-leb, lt-leb}
use Rattle.std.proofs.lemmas.List.{take-append-drop, length-take-le, take-append-le, drop-append-le, take_more, append-nil}
use Rattle.std.proofs.lemmas.List.Concat.{flat_map-append}
use Rattle.std.proofs.lemmas.List.Folds.{drop_split}
use Rattle.std.proofs.lemmas.List.Sums.{sum_by-append}
use Rattle.std.proofs.lemmas.Str.{IsUtf8-nil, IsUtf8-append, IsUtf8-drop, IsUtf8-string_bytes, IsCharBoundary-from_drop, encode_same}
use lib.Utf8.{encode, encodes}
use Rattle.plain_text.specs.Units.{units_of_byte, units_in}
use Rattle.dart_text.specs.Units.{units_of}
use Rattle.dart_text.specs.Lines.{position_after}
use Rattle.dart_text.specs.Edits.{max_text, edited, short_edit}
use Rattle.dart_text.specs.Cursors.{IsAt}
use Rattle.dart_text.specs.Pieces.{spelt, IsFront, IsAround, IsReplacedIn, IsRefusedIn, IsChange}
use Rattle.dart_text.specs.declared.cursor.Cursor.{Cursor}
use Rattle.dart_text.specs.declared.edit.EditRefusal.{EditRefusal}
use Rattle.dart_text.specs.declared.edit.EditRefusal.TheVariants.{OutOfRange, SplitsPair, TooLong}
use Rattle.dart_text.specs.declared.piece.Piece.{Piece}
use Rattle.dart_text.specs.declared.pieces.Change.{Change}
use Rattle.dart_text.specs.declared.pieces.Front.{Front}
use Rattle.dart_text.proofs.UnitLemmas.{one_unit, two_units, units_of-append, units_counted, units_within}
use Rattle.dart_text.proofs.CursorLemmas.{all_units}
use Rattle.dart_text.proofs.EditLemmas.{edited_past, part_splits_start, part_splits_end, part_puts}

-- the text of a piece
abbrev pub bytes_of : Piece → List ℕ
bytes_of p = string_bytes p.text

-- the text of pieces is UTF-8
pub utf8_spelt : (ps : List Piece) → IsUtf8 (spelt ps)
utf8_spelt [] = IsUtf8-nil
utf8_spelt (p ∷ ps) = IsUtf8-append (bytes_of p) (spelt ps) (IsUtf8-string_bytes p.text) (utf8_spelt ps)

-- pieces that are cut in two, and in three
pub spelt_cut : (ps : List Piece) (i : ℕ) → spelt ps ≡ spelt (take i ps) ++ spelt (drop i ps)
spelt_cut ps i = ap (λ (l : List Piece). spelt l) (sym (take-append-drop i ps)) ∙ flat_map-append bytes_of (take i ps) (drop i ps)

pub spelt_parts : (ps : List Piece) (i j : ℕ) → i ≤ j → spelt ps ≡ spelt (take i ps) ++ (spelt (slice_range ps i j) ++ spelt (drop j ps))
spelt_parts ps i j before =
    spelt_cut ps i
    ∙ ap (λ (l : List ℕ). spelt (take i ps) ++ l) (ap (λ (l : List Piece). spelt l) (drop_split ps i j before) ∙ flat_map-append bytes_of (slice_range ps i j) (drop j ps))

-- the units of texts, one behind the other
pub units_in-append : (xs ys : List ℕ) → units_in (xs ++ ys) ≡ units_in xs + units_in ys
units_in-append xs ys = sum_by-append units_of_byte xs ys

-- a text has at most as many units as bytes
pub units_in-le : (ps : List Piece) → units_in (spelt ps) ≤ length (spelt ps)
units_in-le ps = omega (arith, units_counted (spelt ps) (utf8_spelt ps), units_within (spelt ps) (utf8_spelt ps))

-- one more piece
module _ (ps : List Piece) (i : ℕ) (p : Piece) (within : i < length ps) (is : p ≡ get_or ps i p) where
  pub spelt_more : spelt (take (i + 1) ps) ≡ spelt (take i ps) ++ bytes_of p
  spelt_more =
      ap (λ (l : List Piece). spelt l) (take_more ps i p within)
      ∙ flat_map-append bytes_of (take i ps) (get_or ps i p ∷ [])
      ∙ ap (λ (q : Piece). spelt (take i ps) ++ (bytes_of q ++ [])) (sym is)
      ∙ ap (λ (l : List ℕ). spelt (take i ps) ++ l) (append-nil (bytes_of p))

  pub bytes_more : length (spelt (take (i + 1) ps)) ≡ length (spelt (take i ps)) + length (bytes_of p)
  bytes_more = ap (λ (l : List ℕ). length l) spelt_more ∙ length-append (spelt (take i ps)) (bytes_of p)

  pub units_more : units_in (spelt (take (i + 1) ps)) ≡ units_in (spelt (take i ps)) + units_in (bytes_of p)
  units_more = ap (λ (l : List ℕ). units_in l) spelt_more ∙ units_in-append (spelt (take i ps)) (bytes_of p)

  module _ (short : length (spelt ps) ≤ max_text) where
    pub bytes_fit : length (spelt (take i ps)) + length (bytes_of p) ≤ max_text
    bytes_fit =
        let cut = ap (λ (l : List ℕ). length l) (spelt_cut ps (i + 1)) ∙ length-append (spelt (take (i + 1) ps)) (spelt (drop (i + 1) ps)) in
        omega (arith, bytes_more)

    pub units_fit : units_in (spelt (take i ps)) + units_in (bytes_of p) ≤ max_text
    units_fit =
        let cut = ap (λ (l : List ℕ). length l) (spelt_cut ps (i + 1)) ∙ length-append (spelt (take (i + 1) ps)) (spelt (drop (i + 1) ps)) in
        omega (arith, units_more, units_in-le (take (i + 1) ps))

-- a character has a unit
has_unit : (c : ℕ) → 0 < length (encode_utf16 c)
has_unit c = elim (cases_lt c 0x1_0000) [
  | inl one ↦ omega (arith, ap (λ (l : List ℕ). length l) (one_unit c one))
  | inr two ↦ omega (arith, ap (λ (l : List ℕ). length l) (two_units c two))
]

-- a text with others around it
module _ (front middle back : List ℕ) (f : IsUtf8 front) (m : IsUtf8 middle) (b : IsUtf8 back) where
  -- the whole text
  abbrev whole : List ℕ
  whole = front ++ (middle ++ back)

  whole_utf8 : IsUtf8 whole
  whole_utf8 = IsUtf8-append front (middle ++ back) f (IsUtf8-append middle back m b)

  whole_len : length whole ≡ length front + (length middle + length back)
  whole_len = omega (arith, length-append front (middle ++ back), length-append middle back)

  module _ (offset : ℕ) (within : offset ≤ units_in middle) (cursor : Cursor) (at : IsAt middle offset cursor) where
    -- a cursor in the middle is one in the whole
    abbrev place : Cursor
    place = record {
      bytes = length front + cursor.bytes;
      units = units_in front + cursor.units;
      position = position_after (units_of (take (length front + cursor.bytes) whole));
    }

    taken : take (length front + cursor.bytes) whole ≡ front ++ take cursor.bytes middle
    taken = take-append-add front (middle ++ back) cursor.bytes ∙ ap (λ (l : List ℕ). front ++ l) (take-append-le cursor.bytes middle back at.on.between.0)

    dropped : drop (length front + cursor.bytes) whole ≡ drop cursor.bytes middle ++ back
    dropped = drop-append-add front (middle ++ back) cursor.bytes ∙ drop-append-le cursor.bytes middle back at.on.between.0

    rest_utf8 : IsUtf8 (drop cursor.bytes middle)
    rest_utf8 = IsUtf8-drop middle cursor.bytes m at.on.between

    last_from : (cs : List ℕ) → encodes cs ≡ drop cursor.bytes middle → (c : ℕ) (rest : List ℕ) → drop cursor.bytes middle ++ back ≡ encode c ++ rest
        → offset < cursor.units + length (encode_utf16 c)
    last_from [] spelt_is c rest here =
        let none : cursor.bytes ≡ length middle = omega (arith, at.on.between.0, ap (λ (l : List ℕ). length l) spelt_is, length-drop cursor.bytes middle) in
        omega (arith, all_units middle m offset cursor at none, units_counted middle m, has_unit c)
    last_from (d ∷ ds) spelt_is c rest here =
        let same = encode_same c d rest (encodes ds ++ back) (sym here ∙ (ap (λ (l : List ℕ). l ++ back) (sym spelt_is) ∙ append_assoc (encode d) (encodes ds) back)) in
        omega (arith, at.last d (encodes ds) (sym spelt_is), ap (λ (k : ℕ). length (encode_utf16 k)) same.0)

    pub at_whole : IsAt whole (units_in front + offset) place
    at_whole = record {
      on = record {
        between =
            IsCharBoundary-from_drop whole (length front + cursor.bytes) (omega (arith, whole_len, at.on.between.0))
            (subst IsUtf8 (sym dropped) (IsUtf8-append (drop cursor.bytes middle) back rest_utf8 b));
        units =
            let counted = ap (λ (l : List ℕ). length (units_of l)) taken ∙ ap (λ (l : List ℕ). length l) (units_of-append front (take cursor.bytes middle) f) ∙ length-append (units_of front) (units_of (take cursor.bytes middle)) in
            omega (arith, counted, at.on.units, units_counted front f);
        position = refl;
      };
      reached = omega (arith, at.reached);
      last = λ c rest here. omega (arith, last_from rest_utf8.0 rest_utf8.1.1 c rest (sym dropped ∙ here));
    }

-- an edit of the middle of a text
module _ (front middle back : List ℕ) (m : IsUtf8 middle) (before : ℕ) (around : IsAround middle before front back) (offset end : ℕ) (begins : before ≤ offset) (in_order : offset ≤ end) (ends : end ≤ before + units_in middle) (start stop : Cursor) (at_start : IsAt middle (offset - before) start) (at_stop : IsAt middle (end - before) stop) where
  abbrev text : List ℕ
  text = front ++ (middle ++ back)

  utf8 : IsUtf8 text
  utf8 = whole_utf8 front middle back around.front_utf8 m around.back_utf8

  abbrev first : Cursor
  first = place front middle back around.front_utf8 m around.back_utf8 (offset - before) (omega arith) start at_start

  abbrev last : Cursor
  last = place front middle back around.front_utf8 m around.back_utf8 (end - before) (omega arith) stop at_stop

  at_first : IsAt text offset first
  at_first =
      subst (λ n. IsAt text n first) (omega (arith, around.units))
      (at_whole front middle back around.front_utf8 m around.back_utf8 (offset - before) (omega arith) start at_start)

  at_last : IsAt text end last
  at_last =
      subst (λ n. IsAt text n last) (omega (arith, around.units))
      (at_whole front middle back around.front_utf8 m around.back_utf8 (end - before) (omega arith) stop at_stop)

  fits : end ≤ max_text
  fits = omega (arith, around.units, around.short, whole_len front middle back around.front_utf8 m around.back_utf8, units_counted front around.front_utf8, units_within front around.front_utf8, units_counted middle m, units_within middle m)

  sum : end ≡ min (offset + (end - offset)) (2 ^ 64 - 1)
  sum = omega (arith, fits)

  apart : last.bytes ≡ length text → last.units < end → ⊥
  apart all past =
      let none : stop.bytes ≡ length middle = omega (arith, at_stop.on.between.0, whole_len front middle back around.front_utf8 m around.back_utf8) in
      omega (arith, all_units middle m (end - before) stop at_stop none, units_counted middle m, around.units)

  pub start_refused : (with : List ℕ) → start.units < offset - before → edited text offset (end - offset) with ≡ Err (SplitsPair offset)
  start_refused with past = part_splits_start text utf8 around.short offset (end - offset) end sum first last at_first at_last apart with (omega (arith, around.units))

  module _ (starts : offset - before ≤ start.units) where
    pub stop_refused : (with : List ℕ) → stop.units < end - before → edited text offset (end - offset) with ≡ Err (SplitsPair end)
    stop_refused with past = part_splits_end text utf8 around.short offset (end - offset) end sum first last at_first at_last apart (omega (arith, around.units)) with (omega (arith, around.units))

    pub middle_puts : end - before ≤ stop.units → (with : List ℕ) → IsUtf8 with
        → edited text offset (end - offset) with ≡ short_edit (front ++ (replace_range middle start.bytes stop.bytes with ++ back))
    middle_puts stops with w =
        part_puts text utf8 around.short offset (end - offset) end sum first last at_first at_last apart (omega (arith, around.units)) (omega (arith, around.units)) with w
        ∙ ap short_edit (
        ap (λ (l : List ℕ). (l ++ with) ++ drop last.bytes text) (taken front middle back around.front_utf8 m around.back_utf8 (offset - before) (omega arith) start at_start)
        ∙ ap (λ (l : List ℕ). ((front ++ take start.bytes middle) ++ with) ++ l) (dropped front middle back around.front_utf8 m around.back_utf8 (end - before) (omega arith) stop at_stop)
        ∙ simp append_assoc)

-- a text that is too long, and one that isn't
short_edit-long : (text : List ℕ) → max_text < length text → short_edit text ≡ Err (TooLong (length text))
short_edit-long text long = rw (lt-leb (length text) max_text long)

short_edit-short : (text : List ℕ) → length text ≤ max_text → short_edit text ≡ Ok text
short_edit-short text short = rw (le-leb (length text) max_text short)

-- an edit past the end of all pieces
pub past_all : (ps : List Piece) (offset count end all : ℕ) (with : List ℕ) → all ≡ units_in (spelt ps) → end ≡ min (offset + count) (2 ^ 64 - 1) → all < end
    → edited (spelt ps) offset count with ≡ Err (OutOfRange all)
past_all ps offset count end all with counted sum past =
    let units = units_counted (spelt ps) (utf8_spelt ps) in
    edited_past (spelt ps) offset count with (omega arith) ∙ ap (λ n. Err (OutOfRange n)) (omega arith)

-- the bytes that a replaced range leaves
replaced_len : (text with : List ℕ) (s e : ℕ) → s ≤ e → e ≤ length text → length (replace_range text s e with) + (e - s) ≡ length text + length with
replaced_len text with s e before within =
    omega (arith, length-append (take s text ++ with) (drop e text), length-append (take s text) with, length-take-le s text (omega arith), length-drop e text)

-- some pieces in the middle
module _ (ps : List Piece) (short : length (spelt ps) ≤ max_text) (front : Front) (last : ℕ) (is_front : IsFront ps front) (onward : front.pieces ≤ last) where
  abbrev middle_of : List ℕ
  middle_of = spelt (slice_range ps front.pieces last)

  parts : spelt ps ≡ spelt (take front.pieces ps) ++ (middle_of ++ spelt (drop last ps))
  parts = spelt_parts ps front.pieces last onward

  pub parts_len : length (spelt ps) ≡ length (spelt (take front.pieces ps)) + (length middle_of + length (spelt (drop last ps)))
  parts_len =
      ap (λ (l : List ℕ). length l) parts
      ∙ omega (arith, length-append (spelt (take front.pieces ps)) (middle_of ++ spelt (drop last ps)), length-append middle_of (spelt (drop last ps)))

  pub middle_fits : length middle_of ≤ max_text
  middle_fits = omega (arith, parts_len)

  module _ (text : List ℕ) (is : text ≡ middle_of) where
    pub middle_ends : (end : ℕ) → end ≤ units_in (spelt (take last ps)) → end ≤ front.units + units_in text
    middle_ends end reached =
        let cut = ap (λ (l : List ℕ). units_in l) (spelt_cut ps last) ∙ units_in-append (spelt (take last ps)) (spelt (drop last ps)) in
        let in_parts = ap (λ (l : List ℕ). units_in l) parts ∙ (units_in-append (spelt (take front.pieces ps)) (middle_of ++ spelt (drop last ps)) ∙ ap (λ (n : ℕ). units_in (spelt (take front.pieces ps)) + n) (units_in-append middle_of (spelt (drop last ps)))) in
        omega (arith, is_front.units, ap (λ (l : List ℕ). units_in l) is)

    whole_is : spelt ps ≡ spelt (take front.pieces ps) ++ (text ++ spelt (drop last ps))
    whole_is = parts ∙ ap (λ (l : List ℕ). spelt (take front.pieces ps) ++ (l ++ spelt (drop last ps))) (sym is)

    is_around : IsAround text front.units (spelt (take front.pieces ps)) (spelt (drop last ps))
    is_around = record {
      front_utf8 = utf8_spelt (take front.pieces ps);
      back_utf8 = utf8_spelt (drop last ps);
      units = sym is_front.units;
      short = omega (arith, ap (λ (l : List ℕ). length l) whole_is);
    }

    module _ (offset count end : ℕ) (sum : end ≡ offset + count) where
      pub middle_refused : (with : List ℕ) (refusal : EditRefusal) → IsRefusedIn text front.units offset (end - offset) refusal → edited (spelt ps) offset count with ≡ Err refusal
      middle_refused with refusal refused =
          ap (λ (l : List ℕ). edited l offset count with) whole_is
          ∙ (ap (λ (n : ℕ). edited (spelt (take front.pieces ps) ++ (text ++ spelt (drop last ps))) offset n with) (omega arith)
          ∙ refused.tells (spelt (take front.pieces ps)) (spelt (drop last ps)) with is_around)

      module _ (part : Range ℕ) (replaces : IsReplacedIn text front.units offset (end - offset) part) (with : List ℕ) (w : IsUtf8 with) where
        -- the text after the edit
        abbrev pub after : List ℕ
        after = spelt (take front.pieces ps) ++ (replace_range text part.start part.end with ++ spelt (drop last ps))

        middle_edited : edited (spelt ps) offset count with ≡ short_edit after
        middle_edited =
            ap (λ (l : List ℕ). edited l offset count with) whole_is
            ∙ (ap (λ (n : ℕ). edited (spelt (take front.pieces ps) ++ (text ++ spelt (drop last ps))) offset n with) (omega arith)
            ∙ replaces.puts (spelt (take front.pieces ps)) (spelt (drop last ps)) with is_around w)

        pub part_within : part.end - part.start ≤ length (spelt ps)
        part_within = omega (arith, parts_len, ap (λ (l : List ℕ). length l) is, replaces.ends.0)

        pub after_len : length after ≡ length (spelt ps) - (part.end - part.start) + length with
        after_len =
            omega (
              arith,
              parts_len,
              ap (λ (l : List ℕ). length l) is,
              replaces.ends.0,
              replaces.in_order,
              replaced_len text with part.start part.end replaces.in_order replaces.ends.0,
              length-append (spelt (take front.pieces ps)) (replace_range text part.start part.end with ++ spelt (drop last ps)),
              length-append (replace_range text part.start part.end with) (spelt (drop last ps)),
            )

        pub too_long : (bytes : ℕ) → bytes ≡ length (spelt ps) - (part.end - part.start) + length with → max_text < bytes → edited (spelt ps) offset count with ≡ Err (TooLong bytes)
        too_long bytes counted long =
            middle_edited ∙ (short_edit-long after (omega (arith, after_len)) ∙ ap (λ n. Err (TooLong n)) (omega (arith, after_len)))

        pub is_change : (change : Change) → change.first ≡ front.pieces → change.last ≡ last → last ≤ length ps → string_bytes change.text ≡ replace_range text part.start part.end with
            → length (spelt ps) - (part.end - part.start) + length with ≤ max_text → IsChange ps (edited (spelt ps) offset count with) change
        is_change change first_is last_is within text_is fits =
            let same : spelt (take change.first ps) ++ (string_bytes change.text ++ spelt (drop change.last ps)) ≡ after =
            ap (λ (n : ℕ). spelt (take n ps) ++ (string_bytes change.text ++ spelt (drop change.last ps))) first_is
            ∙ (ap (λ (n : ℕ). spelt (take front.pieces ps) ++ (string_bytes change.text ++ spelt (drop n ps))) last_is
            ∙ ap (λ (l : List ℕ). spelt (take front.pieces ps) ++ (l ++ spelt (drop last ps))) text_is) in
            record {
              in_order = omega arith;
              within = omega arith;
              puts = middle_edited ∙ (short_edit-short after (omega (arith, after_len)) ∙ ap Ok (sym same));
              short = omega (arith, ap (λ (l : List ℕ). length l) same, after_len);
            }

-- the pieces after a change
pub spelt-splice : (ps new : List Piece) (i j : ℕ) → spelt (splice ps i j new) ≡ spelt (take i ps) ++ (spelt new ++ spelt (drop j ps))
spelt-splice ps new i j =
    flat_map-append bytes_of (take i ps) (new ++ drop j ps) ∙ ap (λ (l : List ℕ). spelt (take i ps) ++ l) (flat_map-append bytes_of new (drop j ps))

module _ (ps new : List Piece) (answer : Result (List ℕ) EditRefusal) (change : Change) (is : IsChange ps answer change) (text : spelt new ≡ string_bytes change.text) where
  changed_spelt : spelt (splice ps change.first change.last new) ≡ spelt (take change.first ps) ++ (string_bytes change.text ++ spelt (drop change.last ps))
  changed_spelt = spelt-splice ps new change.first change.last ∙ ap (λ (l : List ℕ). spelt (take change.first ps) ++ (l ++ spelt (drop change.last ps))) text

  pub changed_puts : answer ≡ Ok (spelt (splice ps change.first change.last new))
  changed_puts = is.puts ∙ ap Ok (sym changed_spelt)

  pub changed_short : length (spelt (splice ps change.first change.last new)) ≤ max_text
  changed_short = omega (arith, is.short, ap (λ (l : List ℕ). length l) changed_spelt)
