-- What the bytes of a file are.
use Rattle.std.specs.Prelude.{ℕ, List, length, nat_le, if◌then◌else◌}
use Rattle.std.specs.Str.{is_utf8}
use Rattle.dart_text.specs.Edits.{max_text}
use Rattle.load_files.specs.declared.contents.FileContents.{FileContents}
use Rattle.load_files.specs.declared.contents.FileContents.TheVariants.{Text, NotUtf8, TooLong}

-- bytes in UTF-8 are a text, unless they are more than a text has
unfoldable pub contents_of : List ℕ → FileContents
contents_of bytes =
    if is_utf8 bytes then (if nat_le (length bytes) max_text then Text bytes else TooLong (length bytes))
    else NotUtf8 (length bytes)

-- how many bytes there are
abbrev pub size_of : FileContents → ℕ
size_of (Text text) = length text
size_of (NotUtf8 bytes) = bytes
size_of (TooLong bytes) = bytes
