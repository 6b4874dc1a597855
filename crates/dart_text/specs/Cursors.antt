-- Where a cursor stands in a text.
use Rattle.std.specs.Prelude.{◌≡◌, ℕ, ◌+◌, ◌<◌, ◌≤◌, List, ◌++◌, length, take, drop, encode_utf8}
use Rattle.std.specs.Char.Escape.{encode_utf16}
use Rattle.std.specs.Str.{IsCharBoundary}
use Rattle.dart_text.specs.Units.{units_of}
use Rattle.dart_text.specs.Lines.{position_after}
use Rattle.dart_text.specs.declared.cursor.Cursor.{Cursor}

-- the cursor stands between two characters of the text, and has counted the units, the lines and the columns of those before it
pub record IsOn (text : List ℕ) (cursor : Cursor) : Type 0 where
  pub between : IsCharBoundary text cursor.bytes
  pub units : cursor.units ≡ length (units_of (take cursor.bytes text))
  pub position : cursor.position ≡ position_after (units_of (take cursor.bytes text))

-- the cursor stands behind the last character that ends by the offset: the one behind the cursor, if there is one, ends past it
pub record IsAt (text : List ℕ) (offset : ℕ) (cursor : Cursor) : Type 0 where
  pub on : IsOn text cursor
  pub reached : cursor.units ≤ offset
  pub last : (c : ℕ) (rest : List ℕ) → drop cursor.bytes text ≡ encode_utf8 c ++ rest → offset < cursor.units + length (encode_utf16 c)
