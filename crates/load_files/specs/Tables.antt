-- Files by their paths.
use Rattle.std.specs.Prelude.{ℕ, T, List, Option}
use Rattle.std.specs.Cmp.Lexicographic.{slice_cmp}
use Rattle.std.specs.FinMap.Entries.{put, find, is_sorted}
use Rattle.std.specs.Ordering.{nat_cmp}
use Rattle.std.specs.declared.cmp.Ordering.{Ordering}
use Rattle.load_files.specs.declared.contents.FileContents.{FileContents}

-- pairs of a path and what the file there contains
abbrev pub Table : Type 0
Table = List (List ℕ × FileContents)

-- paths and names are compared byte by byte
abbrev pub path_cmp : List ℕ → List ℕ → Ordering
path_cmp = slice_cmp nat_cmp

-- each path stands once, in rising order of the bytes
abbrev pub IsInOrder : Table → Type 0
IsInOrder table = T (is_sorted path_cmp table)

-- what the file at a path contains
unfoldable pub contents_at : List ℕ → Table → Option FileContents
contents_at path table = find path_cmp path table

-- these files with the one at the path, in its place
unfoldable pub with_contents : List ℕ → FileContents → Table → Table
with_contents path contents table = put path_cmp path contents table
