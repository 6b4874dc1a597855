-- What an edit does, where cursors stand at its two ends.
use Rattle.std.proofs.Common.{◌≡◌, ℕ, ◌+◌, ◌-◌, ◌<◌, ◌≤◌, ◌^◌, min, true, false, List, ◌++◌, inl, inr, length, take, drop, IsUtf8, IsCharBoundary, Err, sym, ap, ◌∙◌, subst, arith}
use Rattle.std.specs.List.{replace_range}
use Rattle.std.proofs.lemmas.Bool.{cases_lt, lt-ltb, le-ltb}
use Rattle.std.proofs.lemmas.Str.{IsUtf8-append, IsUtf8-take, IsUtf8-drop}
use Rattle.dart_text.specs.Units.{units_of, text_of, splits_pair}
use Rattle.dart_text.specs.Edits.{max_text, edited, replaced, short_edit}
use Rattle.dart_text.specs.Cursors.{IsAt}
use Rattle.dart_text.specs.declared.cursor.Cursor.{Cursor}
use Rattle.dart_text.specs.declared.edit.EditRefusal.TheVariants.{OutOfRange, SplitsPair}
use Rattle.dart_text.proofs.UnitLemmas.{units_of-append, text_of-units_of, units_within}
use Rattle.dart_text.proofs.CursorLemmas.{units_before, units_behind, splits_none, splits_inside, all_units, offset_within}

-- the refusals and the edited text, each where its tests come out so
module _ (text : List ℕ) (offset count : ℕ) (with : List ℕ) where
  pub edited_past : length (units_of text) < offset + count → edited text offset count with ≡ Err (OutOfRange (length (units_of text)))
  unfolding edited
  edited_past past = rw (lt-ltb (length (units_of text)) (offset + count) past)

  pub edited_at_start : offset + count ≤ length (units_of text) → splits_pair offset (units_of text) ≡ true → edited text offset count with ≡ Err (SplitsPair offset)
  unfolding edited
  edited_at_start within splits = rw (le-ltb (length (units_of text)) (offset + count) within, splits)

  pub edited_at_end : offset + count ≤ length (units_of text) → splits_pair offset (units_of text) ≡ false → splits_pair (offset + count) (units_of text) ≡ true
      → edited text offset count with ≡ Err (SplitsPair (offset + count))
  unfolding edited
  edited_at_end within starts splits = rw (le-ltb (length (units_of text)) (offset + count) within, starts, splits)

  pub edited_within : offset + count ≤ length (units_of text) → splits_pair offset (units_of text) ≡ false → splits_pair (offset + count) (units_of text) ≡ false
      → edited text offset count with ≡ short_edit (replaced text offset count with)
  unfolding edited
  edited_within within starts ends = rw (le-ltb (length (units_of text)) (offset + count) within, starts, ends)

-- a text that replaces the units between two places is put between them
pub replaced-between : (text : List ℕ) (offset count m n : ℕ) (with : List ℕ) → IsUtf8 text → IsUtf8 with → IsCharBoundary text m → IsCharBoundary text n
    → take offset (units_of text) ≡ units_of (take m text) → drop (offset + count) (units_of text) ≡ units_of (drop n text)
    → replaced text offset count with ≡ replace_range text m n with
unfolding replaced
replaced-between text offset count m n with u w starts ends before behind =
    let front : IsUtf8 (take m text) = IsUtf8-take text m u starts in
    let back : IsUtf8 (drop n text) = IsUtf8-drop text n u ends in
    let joined : units_of (replace_range text m n with) ≡ (units_of (take m text) ++ units_of with) ++ units_of (drop n text) =
    units_of-append (take m text ++ with) (drop n text) (IsUtf8-append (take m text) with front w) ∙ ap (λ l. l ++ units_of (drop n text)) (units_of-append (take m text) with front) in
    ap (λ l. text_of ((l ++ units_of with) ++ drop (offset + count) (units_of text))) before
    ∙ ap (λ l. text_of ((units_of (take m text) ++ units_of with) ++ l)) behind
    ∙ ap text_of (sym joined)
    ∙ text_of-units_of (replace_range text m n with) (IsUtf8-append (take m text ++ with) (drop n text) (IsUtf8-append (take m text) with front w) back)

-- cursors that were moved to the two ends of an edit; the end, a sum, stops at the greatest number of 64 bits, which is past the end of every text
module _ (text : List ℕ) (u : IsUtf8 text) (short : length text ≤ max_text) (offset count end_offset : ℕ) (sum : end_offset ≡ min (offset + count) (2 ^ 64 - 1)) (start end : Cursor) (at_start : IsAt text offset start) (at_end : IsAt text end_offset end) where
  pub part_past : (with : List ℕ) → end.bytes ≡ length text → end.units < end_offset → edited text offset count with ≡ Err (OutOfRange end.units)
  part_past with all past =
      let counted = all_units text u end_offset end at_end all in
      edited_past text offset count with (omega arith) ∙ ap (λ n. Err (OutOfRange n)) (sym counted)

  -- where the end isn't past the text, the sum is the end itself, and an offset that a cursor falls short of lies inside a pair
  module _ (apart : end.bytes ≡ length text → end.units < end_offset → ⊥) where
    end_within : end_offset ≤ length (units_of text)
    end_within = offset_within text u end_offset end at_end apart

    sum_is : end_offset ≡ offset + count
    sum_is = omega (arith, end_within, units_within text u)

    start_before : start.units < offset → start.bytes < length text
    start_before past = elim (cases_lt start.bytes (length text)) [
      | inl before ↦ before
      | inr after ↦
          let all : start.bytes ≡ length text = omega (arith, at_start.on.between.0) in
          absurd (omega (arith, end_within, sum_is, all_units text u offset start at_start all))
    ]

    end_before : end.units < end_offset → end.bytes < length text
    end_before past = elim (cases_lt end.bytes (length text)) [
      | inl before ↦ before
      | inr after ↦ absurd (apart (omega (arith, at_end.on.between.0)) past)
    ]

    pub part_splits_start : (with : List ℕ) → start.units < offset → edited text offset count with ≡ Err (SplitsPair offset)
    part_splits_start with past =
        edited_at_start text offset count with (omega (arith, end_within, sum_is)) (splits_inside text u offset start at_start (start_before past) past)

    module _ (starts : offset ≤ start.units) where
      starts_none : splits_pair offset (units_of text) ≡ false
      starts_none = splits_none text u offset start at_start (omega (arith, at_start.reached))

      pub part_splits_end : (with : List ℕ) → end.units < end_offset → edited text offset count with ≡ Err (SplitsPair end_offset)
      part_splits_end with past =
          let splits = splits_inside text u end_offset end at_end (end_before past) past in
          edited_at_end text offset count with (omega (arith, end_within, sum_is)) starts_none (subst (λ n. splits_pair n (units_of text) ≡ true) sum_is splits)
          ∙ ap (λ n. Err (SplitsPair n)) (sym sum_is)

      module _ (ends : end_offset ≤ end.units) where
        ends_here : end.units ≡ end_offset
        ends_here = omega (arith, at_end.reached)

        pub part_puts : (with : List ℕ) → IsUtf8 with → edited text offset count with ≡ short_edit (replace_range text start.bytes end.bytes with)
        part_puts with w =
            let none = splits_none text u end_offset end at_end ends_here in
            edited_within text offset count with (omega (arith, end_within, sum_is)) starts_none (subst (λ n. splits_pair n (units_of text) ≡ false) sum_is none)
            ∙ ap short_edit (
            replaced-between text offset count start.bytes end.bytes with u w at_start.on.between at_end.on.between
            (units_before text u offset start at_start (omega (arith, at_start.reached)))
            (ap (λ n. drop n (units_of text)) (sym sum_is) ∙ units_behind text u end_offset end at_end ends_here)
            )
