-- Imports of dart:core that may leave names of it out. Where no directive imports dart:core, it is imported all the same, with all of them.
use Rattle.std.specs.Prelude.{ℕ, Bool, true, false, not, ◌&&◌, ◌||◌, List, [], codes, bytes_eq, slice_index_or}
use Rattle.dart_scan.specs.Values.{string_value}
use Rattle.dart_tree.specs.Tree.{Tree, Trees, Part, no_more, more, absent, present, simple_string, import_directive}

-- the value of a string is `dart:core`; one with interpolations has none
abbrev pub says_core : (words : List (List ℕ)) → Tree → Bool
says_core words (simple_string at kind word) = bytes_eq (string_value kind (slice_index_or words word [])) (codes "dart:core")
says_core words _ = false

-- an import brings all names as they are: it has no prefix and no combinators
abbrev pub brings_all : (prefix : Part) → (combinators : Trees) → Bool
brings_all absent no_more = true
brings_all absent (more first rest) = false
brings_all (present name) combinators = false

-- an import of dart:core that doesn't
abbrev pub narrows : (words : List (List ℕ)) → Tree → Bool
narrows words (import_directive at uri prefix combinators) = not (brings_all prefix combinators) && says_core words uri
narrows words _ = false

-- one of the items is such an import
abbrev pub narrows_core : (words : List (List ℕ)) → Trees → Bool
narrows_core words no_more = false
narrows_core words (more first rest) = narrows words first || narrows_core words rest
