-- A text as its UTF-16 code units, in which the protocol counts, and as its UTF-8, in which it is kept.
use Rattle.std.specs.Prelude.{ℕ, Bool, false, List, slice_get}
use Rattle.std.specs.List.{flat_map}
use Rattle.std.specs.Option.{option_map_or}
use Rattle.std.specs.Str.{chars, encode_utf8_all}
use Rattle.std.specs.Char.Escape.{encode_utf16}
use Rattle.std.specs.Char.Utf16.{utf16_lossy_chars, is_low_surrogate}

-- the code units of a text: one or two for each of its characters
unfoldable pub units_of : List ℕ → List ℕ
units_of text = flat_map encode_utf16 (chars text)

-- the text that code units spell, in UTF-8; a surrogate without its partner, which no text has, would be read as U+FFFD
unfoldable pub text_of : List ℕ → List ℕ
text_of units = encode_utf8_all (utf16_lossy_chars units)

-- the offset lies inside a surrogate pair: the unit behind it is the second of a pair
abbrev pub splits_pair : ℕ → List ℕ → Bool
splits_pair offset units = option_map_or is_low_surrogate (slice_get units offset) false
