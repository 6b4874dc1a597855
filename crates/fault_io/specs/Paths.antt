-- Paths of a file store: absolute and normalized.
use Rattle.std.specs.Prelude.{ℕ, Bool, false, not, ◌&&◌, ◌||◌, ◌==◌, List, [], ◌∷◌, ◌++◌, length, bytes_eq, if◌then◌else◌, Option, None, Some, is_some}
use Rattle.std.specs.List.{list_all, list_any, slice_split}

-- the byte between two segments
abbrev pub slash : ℕ
slash = 47

-- the path `/`
abbrev pub root : List ℕ
root = slash ∷ []

-- a name in a folder: not empty, not `.` or `..`, and without a NUL (and, as a piece between slashes, without a slash)
abbrev pub is_segment : List ℕ → Bool
is_segment name = not ((length name == 0) || bytes_eq name (46 ∷ []) || bytes_eq name (46 ∷ 46 ∷ []) || list_any (λ byte. byte == 0) name)

-- an absolute and normalized path: `/`, or a slash and segments with a slash between each two
abbrev pub is_path : List ℕ → Bool
is_path [] = false
is_path (first ∷ rest) =
    (first == slash) && ((length rest == 0) || list_all is_segment (slice_split (λ byte. byte == slash) rest))

-- what follows this front, in a text that begins with it
abbrev pub after_front : List ℕ → List ℕ → Option (List ℕ)
after_front [] text = Some text
after_front (x ∷ front) [] = None
after_front (x ∷ front) (y ∷ text) = if x == y then after_front front text else None

-- what every path under a folder begins with
abbrev pub front_of : List ℕ → List ℕ
front_of folder = if bytes_eq folder root then root else folder ++ root

-- a path under a folder begins with the folder and a slash; all but `/` itself are under `/`
abbrev pub is_under : List ℕ → List ℕ → Bool
is_under folder path = not (bytes_eq path root) && is_some (after_front (front_of folder) path)
