-- The line and the column of an offset. Both count from 1; a line ends at a line feed alone, and offsets and columns count UTF-16 code units.
use Rattle.std.specs.Prelude.{ℕ, ◌+◌, ◌==◌, Bool, List, length, take, count_by}
use Rattle.std.specs.List.{after_last}
use Rattle.dart_text.specs.Units.{units_of}
use Rattle.dart_text.specs.declared.position.Position.{Position}

-- a line feed, the end of a line
abbrev pub is_line_feed : ℕ → Bool
is_line_feed unit = unit == 10

-- The position behind some first units of a text: its line is one more than the line feeds among them, its column one more than the units behind the last of these.
abbrev pub position_after : List ℕ → Position
position_after front = record { line = 1 + count_by is_line_feed front; column = 1 + length (after_last is_line_feed front) }

-- the position of an offset; past the end of the text it is that of the end
unfoldable pub position_of : ℕ → List ℕ → Position
position_of offset text = position_after (take offset (units_of text))
