use Rattle.std.proofs.Common.{◌≡◌, ◌++◌, length, drop, sym, ap, ◌∙◌, subst, arith, length-append}
use Rattle.std.specs.Char.{encode_utf8}
use Rattle.std.specs.Char.Escape.{encode_utf16}
use Rattle.std.specs.Str.Iter.{chars_rest}
use Rattle.std.proofs.lemmas.Str.{drop_past_char, encode_same, length-encode, len_utf8_bounds}
use Rattle.dart_text.specs.Cursors.{IsOn}
use Rattle.dart_text.proofs.CursorLemmas.{on_start, length-encode_utf16}
use Rattle.dart_text.proofs.cursor.Cursor.moved_to.Goals as goal
use Rattle.dart_text.proofs.cursor.Cursor.moved_to.Goals.{then-offset-self, else-offset-self}

pub loop-character-init : goal.loop-character-init
loop-character-init c = record {
  on = elim c.if-offset-self.branch [
    | then-offset-self w ↦ subst (IsOn c.args.text.now) (sym w.cursor-is) (on_start c.args.text.now c.utf8.text)
    | else-offset-self w ↦ subst (IsOn c.args.text.now) (sym w.cursor-is) c.requires.on
  ];
  reached = elim c.if-offset-self.branch [
    | then-offset-self w ↦ omega (arith, ap (λ k. k.units) w.cursor-is)
    | else-offset-self w ↦ omega (arith, ap (λ k. k.units) w.cursor-is)
  ];
  onward = λ before. elim c.if-offset-self.branch [
    | then-offset-self w ↦ absurd (omega arith)
    | else-offset-self w ↦ omega (arith, ap (λ k. k.bytes) w.cursor-is)
  ];
  rest = ap chars_rest c.into_iter-character-iterator.ensures.into_iter_gives ∙ c.chars-character-items.ensures.rest ∙ c.range_from.ensures.value;
}

-- the character that is come to reaches past the offset
pub returns-then-offset-cursor-clause-at : goal.returns-then-offset-cursor-clause-at
returns-then-offset-cursor-clause-at c =
    let units = length-encode_utf16 c.in-Some.character c.len_utf16-units.result c.len_utf16-units.ensures.bmp c.len_utf16-units.ensures.surrogate_pair in
    record {
      on = c.loop-character.invariant.on;
      reached = c.loop-character.invariant.reached;
      last = λ d rest here.
          let same = encode_same d c.in-Some.character rest (chars_rest c.next.new.self) (sym here ∙ sym c.loop-character.invariant.rest ∙ c.in-Some.ensures.steps.0) in
          omega (arith, ap (λ k. length (encode_utf16 k)) same.0);
    }

pub loop-character-preserved : goal.loop-character-preserved
loop-character-preserved c =
    let units = length-encode_utf16 c.in-Some.character c.len_utf16-units.result c.len_utf16-units.ensures.bmp c.len_utf16-units.ensures.surrogate_pair in
    let here : drop c.loop-character.cursor.bytes c.args.text.now ≡ encode_utf8 c.in-Some.character ++ chars_rest c.next.new.self =
    sym c.loop-character.invariant.rest ∙ c.in-Some.ensures.steps.0 in
    record {
      on = c.past-cursor.ensures.on;
      reached = omega (arith, c.past-cursor.ensures.units);
      onward = λ before. omega (arith, c.loop-character.invariant.onward before, c.past-cursor.ensures.bytes);
      rest =
          sym (drop_past_char c.args.text.now (chars_rest c.next.new.self) c.loop-character.cursor.bytes c.in-Some.character here)
          ∙ ap (λ n. drop n c.args.text.now) (omega (arith, c.past-cursor.ensures.bytes, length-encode c.in-Some.character));
    }

-- no character is left
pub returns-clause-at : goal.returns-clause-at
returns-clause-at c = record {
  on = c.loop-character.invariant.on;
  reached = c.loop-character.invariant.reached;
  last = λ d rest here.
      absurd (omega (arith, c.in-None.ensures.steps.0, ap length c.loop-character.invariant.rest, ap length here, length-append (encode_utf8 d) rest, length-encode d, len_utf8_bounds d));
}
