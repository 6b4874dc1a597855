use Rattle.std.proofs.Common.{◌≡◌, ◌≤◌, drop}
use Rattle.std.specs.Str.Iter.{chars_rest}
use Rattle.dart_text.specs.Cursors.{IsOn}
use Rattle.dart_text.proofs.cursor.Cursor.moved_to.Given as goal

-- the cursor stands in the text, and not past the offset, and has not gone back unless it had to; the characters behind it are to come
abbrev pub invariant-loop-character : goal.invariant-loop-character
invariant-loop-character l = record {
  on : IsOn l.text l.cursor;
  reached : l.cursor.units ≤ l.offset;
  onward : l.fn.self.units ≤ l.offset → l.fn.self.bytes ≤ l.cursor.bytes;
  rest : chars_rest l.character-iterator ≡ drop l.cursor.bytes l.text;
}
