-- What an edit makes of a text.
use Rattle.std.specs.Prelude.{ℕ, ◌+◌, List, ◌++◌, length, take, drop, nat_le, nat_lt, if◌then◌else◌, Result, Ok, Err}
use Rattle.std.specs.Str.{is_utf8}
use Rattle.dart_text.specs.Units.{units_of, text_of, splits_pair}
use Rattle.dart_text.specs.declared.text.TheConstants.{MAX_TEXT}
use Rattle.dart_text.specs.declared.text.TextRefusal.{TextRefusal}
use Rattle.dart_text.specs.declared.text.TextRefusal.TheVariants as text_refusal
use Rattle.dart_text.specs.declared.edit.EditRefusal.{EditRefusal}
use Rattle.dart_text.specs.declared.edit.EditRefusal.TheVariants.{OutOfRange, SplitsPair, TooLong}

-- the most bytes that the text of a file has
abbrev pub max_text : ℕ
max_text = MAX_TEXT

-- the text of a file, if it is short enough
unfoldable pub short_text : List ℕ → Result (List ℕ) TextRefusal
short_text text = if nat_le (length text) max_text then Ok text else Err (text_refusal.TooLong (length text))

-- the text that bytes are: they are UTF-8, and no more than a file's text has
unfoldable pub text_in_bytes : List ℕ → Result (List ℕ) TextRefusal
text_in_bytes bytes = if is_utf8 bytes then short_text bytes else Err text_refusal.NotUtf8

-- The text without the `count` units behind `offset`, and with those of `with` in their place.
unfoldable pub replaced : List ℕ → (offset count : ℕ) → List ℕ → List ℕ
replaced text offset count with = text_of (take offset (units_of text) ++ units_of with ++ drop (offset + count) (units_of text))

-- the text after an edit, if it is short enough
abbrev pub short_edit : List ℕ → Result (List ℕ) EditRefusal
short_edit text = if nat_le (length text) max_text then Ok text else Err (TooLong (length text))

-- An edit replaces `count` units behind `offset`. It is refused, by the first of these that holds: its end lies past the end of the text; its start, or its end, lies inside a surrogate pair; the text would be too long.
unfoldable pub edited : List ℕ → (offset count : ℕ) → List ℕ → Result (List ℕ) EditRefusal
edited text offset count with =
    if nat_lt (length (units_of text)) (offset + count) then Err (OutOfRange (length (units_of text)))
    else (if splits_pair offset (units_of text) then Err (SplitsPair offset)
    else (if splits_pair (offset + count) (units_of text) then Err (SplitsPair (offset + count))
    else short_edit (replaced text offset count with)))
