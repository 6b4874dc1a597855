-- The URIs of directives.
use Rattle.std.specs.Prelude.{ℕ, List, [], slice_index_or, if◌then◌else◌, Option, Some, None}
use Rattle.std.specs.Char.Utf16.{has_unpaired_surrogate, utf16_lossy_chars}
use Rattle.std.specs.Str.{encode_utf8_all}
use Rattle.dart_scan.specs.Values.{string_value}
use Rattle.dart_tree.specs.Tree.{Tree, simple_string}
use Rattle.dart_tree.specs.Places.{span_of}
use Rattle.directives.specs.declared.uri.Uri.{Uri}

-- the letters of the word at a place
abbrev pub word_at : List (List ℕ) → ℕ → List ℕ
word_at words word = slice_index_or words word []

-- the text that UTF-16 code units spell; none where a half of a surrogate pair stands alone
unfoldable pub text_of_units : List ℕ → Option (List ℕ)
text_of_units units = if has_unpaired_surrogate units then None else Some (encode_utf8_all (utf16_lossy_chars units))

-- the text that the string of a directive stands for; one with interpolations stands for none
abbrev pub uri_text : (words : List (List ℕ)) → Tree → Option (List ℕ)
uri_text words (simple_string at kind word) = text_of_units (string_value kind (word_at words word))
uri_text words _ = None

-- the URI that a string says
abbrev pub uri_of : (words : List (List ℕ)) → Tree → Uri
uri_of words literal = record { span = span_of literal; text = uri_text words literal }
