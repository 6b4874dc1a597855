-- The path that a URI reference names.
use Rattle.std.specs.Prelude.{ℕ, Bool, ◌==◌, ◌||◌, List, [], take, codes, if◌then◌else◌, Option, None, Some, option_map, option_and_then}
use Rattle.std.specs.List.{list_any, position_or_len}
use Rattle.std.specs.Str.{is_utf8}
use Rattle.percent_encoding.specs.Percent.{percent_decode}
use Rattle.fault_io.specs.Paths.{slash, root, after_front}
use Rattle.dart_uri.specs.Segments.{segments_of, walked, path_of}
use Rattle.dart_uri.specs.declared.reference.Start.{Start}
use Rattle.dart_uri.specs.declared.reference.Start.TheVariants.{Root, Folder}

-- a query begins with `?`, a fragment with `#`
abbrev pub has_more_parts : List ℕ → Bool
has_more_parts reference = list_any (λ byte. byte == 63 || byte == 35) reference

abbrev pub before_slash : List ℕ → List ℕ
before_slash reference = take (position_or_len (λ byte. byte == slash) reference) reference

-- a scheme ends in a colon, which stands before the first slash
abbrev pub has_scheme : List ℕ → Bool
has_scheme reference = list_any (λ byte. byte == 58) (before_slash reference)

-- what is found behind a front, or else this
abbrev pub from_root_or : Option (List ℕ) → Option (Start × List ℕ) → Option (Start × List ℕ)
from_root_or (Some rest) other = Some (Root, rest)
from_root_or None other = other

-- where the path of a reference begins, and its path: only `file:///` is known of the schemes, and that by its very letters
unfoldable pub located : List ℕ → Option (Start × List ℕ)
located reference =
    if has_more_parts reference then None
    else from_root_or (after_front (codes "file:///") reference)
    (if has_scheme reference then None else from_root_or (after_front root reference) (Some (Folder, reference)))

-- the text that escapes stand for, if it is UTF-8
abbrev pub decoded : List ℕ → Option (List ℕ)
decoded escaped = if is_utf8 (percent_decode escaped) then Some (percent_decode escaped) else None

-- the segments from which the path of a reference goes on, in a folder
unfoldable pub from_of : List ℕ → Start → Option (List (List ℕ))
from_of folder Root = Some []
from_of folder Folder = option_and_then (λ rest. walked [] (segments_of rest)) (after_front root folder)

-- the path that a decoded text leads to
unfoldable pub resolved_from : List ℕ → Start → List ℕ → Option (List ℕ)
resolved_from folder start text = option_and_then (λ from. option_map path_of (walked from (segments_of text))) (from_of folder start)

-- The path that a reference in a folder names: it is decoded before its dot segments are removed.
abbrev pub resolved : List ℕ → List ℕ → Option (List ℕ)
resolved folder reference = option_and_then (λ found. option_and_then (resolved_from folder found.0) (decoded found.1)) (located reference)
