-- The paths of roots and of what stands in folders.
use Rattle.std.specs.Prelude.{ℕ, Bool, ◌||◌, List, ◌++◌, codes, nat_eq, bytes_eq}
use Rattle.std.specs.List.{list_any, ends_with}
use Rattle.fault_io.specs.Paths.{front_of, is_under}

-- a path lies in a root where it is the root or lies under it
abbrev pub lies_in : List ℕ → List ℕ → Bool
lies_in root path = bytes_eq path root || is_under root path

-- a path is excluded where it lies in one of these
abbrev pub is_excluded : List (List ℕ) → List ℕ → Bool
is_excluded excluded path = list_any (λ root. lies_in root path) excluded

-- the path of what has this name in a folder
abbrev pub child : List ℕ → List ℕ → List ℕ
child folder name = front_of folder ++ name

-- the name of a library ends in `.dart`
abbrev pub is_library : List ℕ → Bool
is_library path = ends_with nat_eq path (codes ".dart")
