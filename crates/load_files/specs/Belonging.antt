-- Which files a snapshot has.
use Rattle.std.specs.Prelude.{◌≡◌, ℕ, Bool, not, ◌&&◌, ◌||◌, List, if◌then◌else◌, None, option_map}
use Rattle.std.specs.List.{list_any, list_all}
use Rattle.fault_io.specs.Paths.{is_path}
use Rattle.fault_io.specs.Stored.{Stored, bytes_at}
use Rattle.load_files.specs.Contents.{contents_of}
use Rattle.load_files.specs.Paths.{lies_in, is_excluded, is_library}
use Rattle.load_files.specs.Tables.{Table, contents_at}
use Rattle.load_files.specs.declared.roots.Roots.{Roots}

-- a path lies in an included path or in the folder of a package
abbrev pub is_reached : Roots → List ℕ → Bool
is_reached roots path = list_any (λ root. lies_in root path) roots.included || list_any (λ each. lies_in each.folder path) roots.packages

-- a path is that of a library, is reached, and isn't excluded
abbrev pub belongs : Roots → List ℕ → Bool
belongs roots path = is_library path && (is_reached roots path && not (is_excluded roots.excluded path))

-- the included paths and the folders of the packages are absolute and normalized
abbrev pub are_paths : Roots → Bool
are_paths roots = list_all is_path roots.included && list_all (λ each. is_path each.folder) roots.packages

-- at each path that belongs to the roots there is what the store has there, and nothing at any other
pub record HasTheFiles (stored : Stored) (roots : Roots) (table : Table) : Type 0 where
  pub at_each : (path : List ℕ) → contents_at path table ≡ (if belongs roots path then option_map contents_of (bytes_at stored path) else None)
