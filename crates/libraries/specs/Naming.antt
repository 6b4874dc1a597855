-- The paths that URIs name.
use Rattle.std.specs.Prelude.{ℕ, ◌==◌, ◌+◌, ◌||◌, Bool, not, List, ◌∷◌, ◌++◌, length, take, drop, find, bytes_eq, nat_eq, nat_lt, codes, if◌then◌else◌, Option, Some, None, option_map, option_and_then}
use Rattle.std.specs.List.{ends_with, position_or_len}
use Rattle.percent_encoding.specs.Percent.{percent_decode}
use Rattle.fault_io.specs.Paths.{slash, root, after_front}
use Rattle.dart_uri.specs.References.{has_more_parts, resolved}
use Rattle.load_files.specs.declared.packages.Package.{Package}

-- the path of `dart:core`, which is its URI too
abbrev pub core_path : List ℕ
core_path = codes "dart:core"

abbrev pub is_core : List ℕ → Bool
is_core text = bytes_eq text core_path

-- what follows `package:`
abbrev pub behind_package : List ℕ → Option (List ℕ)
behind_package text = after_front (codes "package:") text

-- what stands before the first slash, and what behind it
abbrev pub split_at_slash : List ℕ → Option (List ℕ × List ℕ)
split_at_slash text =
    let at = position_or_len (λ byte. byte == slash) text in if nat_lt at (length text) then Some (take at text, drop (at + 1) text) else None

-- the folder of the package of this name
abbrev pub folder_of_package : List Package → List ℕ → Option (List ℕ)
folder_of_package packages name = option_map (λ p. p.folder) (find (λ p. bytes_eq p.name name) packages)

-- a reference that goes on from a folder, whatever it begins with
abbrev pub folder_from : List ℕ → List ℕ
folder_from path = codes "./" ++ path

-- a name and a path behind a slash name what stands at the path in the folder of the package of that name
abbrev pub path_of_package : List Package → (List ℕ × List ℕ) → Option (List ℕ)
path_of_package packages parts = option_and_then (λ folder. resolved folder (folder_from parts.1)) (folder_of_package packages parts.0)

-- what the rest of a `package:` URI names; with a query or a fragment it names nothing
abbrev pub path_in_package : List Package → List ℕ → Option (List ℕ)
path_in_package packages rest = if has_more_parts rest then None else option_and_then (path_of_package packages) (split_at_slash rest)

-- what a reference names from the folder of the file in which it stands
abbrev pub path_beside : (file text : List ℕ) → Option (List ℕ)
path_beside file text = option_and_then (λ folder. resolved folder text) (resolved file (codes ".."))

-- a path ends as that of a folder may: in a slash, or in `.` or `..` behind one
abbrev pub ends_as_folder : List ℕ → Bool
ends_as_folder path = ends_with nat_eq path root || ends_with nat_eq path (codes "/.") || ends_with nat_eq path (codes "/..")

-- the last segment of a URI, with its escapes decoded, is the name of an entry
abbrev pub names_entry : List ℕ → Bool
names_entry text = not (ends_as_folder (slash ∷ percent_decode text))

-- a URI with `package:` or one without
abbrev pub in_package_or_beside : List Package → (file text : List ℕ) → Option (List ℕ) → Option (List ℕ)
in_package_or_beside packages file text (Some rest) = path_in_package packages rest
in_package_or_beside packages file text None = path_beside file text

-- the path that a URI names that stands in a file: `dart:core` names its own library, `package:` what stands in the folder of a package, and all else what the reference names from the folder of the file; a URI whose last segment is no name, as that of the empty one, names nothing
abbrev pub named_path : List Package → (file text : List ℕ) → Option (List ℕ)
named_path packages file text =
    if not (names_entry text) then None else (if is_core text then Some text else in_package_or_beside packages file text (behind_package text))
