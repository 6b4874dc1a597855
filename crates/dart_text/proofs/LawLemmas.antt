-- The code units that an edit leaves.
use Rattle.std.proofs.Common.{◌≡◌, ℕ, zero, suc, ◌+◌, ◌≤◌, inl, inr, Bool, true, false, if◌then◌else◌, List, [], ◌∷◌, ◌++◌, length, take, drop, IsUtf8, Ok, Err, refl, sym, ap, ◌∙◌, subst, arith}
use Rattle.std.specs.List.{flat_map}
use Rattle.std.specs.Str.{chars}
use Rattle.std.specs.Char.Escape.{encode_utf16}
use Rattle.std.proofs.lemmas.Bool.{and_parts, and_from, cases_lt, ltb-false, true≢false}
use Rattle.std.proofs.lemmas.List.Concat.{flat_map-append}
use Rattle.std.proofs.lemmas.Str.{chars-encodes, scalars-chars}
use lib.Utf8.{scalar, scalars, encodes}
use Rattle.dart_text.specs.Units.{units_of, text_of, splits_pair}
use Rattle.dart_text.specs.Edits.{edited, replaced}
use Rattle.dart_text.specs.declared.edit.EditRefusal.{EditRefusal}
use Rattle.dart_text.proofs.UnitLemmas.{all_spelt, one_unit, two_units}
use Rattle.dart_text.proofs.CursorLemmas.{second_of_two}

-- the units of characters
abbrev units : List ℕ → List ℕ
units cs = flat_map encode_utf16 cs

-- characters that are cut behind their first units
record Cut (cs : List ℕ) (offset : ℕ) : Type 0 where
  front : List ℕ
  back : List ℕ
  is : cs ≡ front ++ back
  before : take offset (units cs) ≡ units front
  behind : drop offset (units cs) ≡ units back

-- one more character of one unit, and one of two
cut_one : (c : ℕ) (cs : List ℕ) (offset : ℕ) → encode_utf16 c ≡ c ∷ [] → Cut cs offset → Cut (c ∷ cs) (suc offset)
cut_one c cs offset one cut = record {
  front = c ∷ cut.front;
  back = cut.back;
  is = ap (λ l. c ∷ l) cut.is;
  before = ap (λ u. take (suc offset) (u ++ units cs)) one ∙ ap (λ l. c ∷ l) cut.before ∙ ap (λ u. u ++ units cut.front) (sym one);
  behind = ap (λ u. drop (suc offset) (u ++ units cs)) one ∙ cut.behind;
}

cut_two : (c high low : ℕ) (cs : List ℕ) (offset : ℕ) → encode_utf16 c ≡ high ∷ low ∷ [] → Cut cs offset → Cut (c ∷ cs) (suc (suc offset))
cut_two c high low cs offset two cut = record {
  front = c ∷ cut.front;
  back = cut.back;
  is = ap (λ l. c ∷ l) cut.is;
  before = ap (λ u. take (suc (suc offset)) (u ++ units cs)) two ∙ ap (λ l. high ∷ low ∷ l) cut.before ∙ ap (λ u. u ++ units cut.front) (sym two);
  behind = ap (λ u. drop (suc (suc offset)) (u ++ units cs)) two ∙ cut.behind;
}

-- an offset within that splits no pair cuts the characters
cut_at : (cs : List ℕ) (offset : ℕ) → offset ≤ length (units cs) → splits_pair offset (units cs) ≡ false → Cut cs offset
cut_at [] zero within whole = record { front = []; back = []; is = refl; before = refl; behind = refl }
cut_at [] (suc offset) within whole = absurd (omega arith)
cut_at (c ∷ cs) zero within whole = record { front = []; back = c ∷ cs; is = refl; before = refl; behind = refl }
cut_at (c ∷ cs) (suc zero) within whole = elim (cases_lt c 0x1_0000) [
  | inl small ↦
      let one = one_unit c small in
      cut_one c cs zero one (cut_at cs zero (omega arith) (subst (λ u. splits_pair (suc zero) (u ++ units cs) ≡ false) one whole))
  | inr large ↦ absurd (true≢false (sym (second_of_two c) ∙ subst (λ u. splits_pair (suc zero) (u ++ units cs) ≡ false) (two_units c large) whole))
]
cut_at (c ∷ cs) (suc (suc offset)) within whole = elim (cases_lt c 0x1_0000) [
  | inl small ↦
      let one = one_unit c small in
      cut_one c cs (suc offset) one (
      cut_at cs (suc offset) (omega (arith, subst (λ u. suc (suc offset) ≤ length (u ++ units cs)) one within))
      (subst (λ u. splits_pair (suc (suc offset)) (u ++ units cs) ≡ false) one whole)
      )
  | inr large ↦
      let two = two_units c large in
      cut_two c _ _ cs offset two (
      cut_at cs offset (omega (arith, subst (λ u. suc (suc offset) ≤ length (u ++ units cs)) two within))
      (subst (λ u. splits_pair (suc (suc offset)) (u ++ units cs) ≡ false) two whole)
      )
]

-- characters that are put together, and parts of characters
scalars-append : (xs ys : List ℕ) → scalars xs ≡ true → scalars ys ≡ true → scalars (xs ++ ys) ≡ true
scalars-append [] ys left right = right
scalars-append (c ∷ xs) ys left right =
    let parts = and_parts (scalar c) (scalars xs) left in
    and_from (scalar c) (scalars (xs ++ ys)) parts.0 (scalars-append xs ys parts.1 right)

scalars_front : (xs ys : List ℕ) → scalars (xs ++ ys) ≡ true → scalars xs ≡ true
scalars_front [] ys all = refl
scalars_front (c ∷ xs) ys all =
    let parts = and_parts (scalar c) (scalars (xs ++ ys)) all in
    and_from (scalar c) (scalars xs) parts.0 (scalars_front xs ys parts.1)

scalars_back : (xs ys : List ℕ) → scalars (xs ++ ys) ≡ true → scalars ys ≡ true
scalars_back [] ys all = all
scalars_back (c ∷ xs) ys all = scalars_back xs ys (and_parts (scalar c) (scalars (xs ++ ys)) all).1

-- the units of characters are those of the text that they spell
units_spelt : (cs : List ℕ) → scalars cs ≡ true → units_of (text_of (units cs)) ≡ units cs
unfolding units_of text_of
units_spelt cs ok = ap (λ l. units (chars (encodes l))) (all_spelt cs ok) ∙ ap units (chars-encodes cs ok)

-- so are those of parts of texts that are put together, where they were cut between characters
module _ (cs ds : List ℕ) (offset end : ℕ) (ok : scalars cs ≡ true) (others : scalars ds ≡ true) (start : Cut cs offset) (stop : Cut cs end) where
  -- the characters of the parts
  joined : List ℕ
  joined = (start.front ++ ds) ++ stop.back

  joined_units : (take offset (units cs) ++ units ds) ++ drop end (units cs) ≡ units joined
  unfolding joined
  joined_units =
      ap (λ l. (l ++ units ds) ++ drop end (units cs)) start.before
      ∙ ap (λ l. (units start.front ++ units ds) ++ l) stop.behind
      ∙ ap (λ l. l ++ units stop.back) (sym (flat_map-append encode_utf16 start.front ds))
      ∙ sym (flat_map-append encode_utf16 (start.front ++ ds) stop.back)

  joined_scalars : scalars joined ≡ true
  unfolding joined
  joined_scalars =
      scalars-append (start.front ++ ds) stop.back
      (scalars-append start.front ds (scalars_front start.front start.back (subst (λ l. scalars l ≡ true) start.is ok)) others)
      (scalars_back stop.front stop.back (subst (λ l. scalars l ≡ true) stop.is ok))

  joined_spelt : units_of (text_of ((take offset (units cs) ++ units ds) ++ drop end (units cs))) ≡ (take offset (units cs) ++ units ds) ++ drop end (units cs)
  joined_spelt = subst (λ l. units_of (text_of l) ≡ l) (sym joined_units) (units_spelt joined joined_scalars)

-- an edit is done where each test fails
tests_fail : (past starts ends short : Bool) (a b c d : EditRefusal) (text new : List ℕ)
    → (if past then Err a else (if starts then Err b else (if ends then Err c else (if short then Ok text else Err d)))) ≡ Ok new
    → (past ≡ false) × (starts ≡ false) × (ends ≡ false) × (text ≡ new)
tests_fail true starts ends short a b c d text new done = absurd cc
tests_fail false true ends short a b c d text new done = absurd cc
tests_fail false false true short a b c d text new done = absurd cc
tests_fail false false false true a b c d text new done = (refl, refl, refl, cc)
tests_fail false false false false a b c d text new done = absurd cc

-- the units of the text after an edit
pub units_of-edited : (text with new : List ℕ) (offset count : ℕ) → IsUtf8 text → IsUtf8 with → edited text offset count with ≡ Ok new
    → units_of new ≡ (take offset (units_of text) ++ units_of with) ++ drop (offset + count) (units_of text)
unfolding edited replaced units_of
units_of-edited text with new offset count u w done =
    let tests = tests_fail _ _ _ _ _ _ _ _ _ _ done in
    let within : offset + count ≤ length (units (chars text)) = ltb-false _ _ tests.0 in
    ap units_of (sym tests.3)
    ∙ joined_spelt (chars text) (chars with) offset (offset + count) (scalars-chars text u) (scalars-chars with w)
    (cut_at (chars text) offset (omega arith) tests.1) (cut_at (chars text) (offset + count) within tests.2)
