-- The packages of a packages file in a store.
use Rattle.std.specs.Prelude.{ℕ, List, Option, None, Some, option_and_then, if◌then◌else◌, codes, length, nat_lt}
use Rattle.dart_uri.specs.References.{resolved}
use Rattle.load_files.specs.declared.loading.TheConstants.{MAX_BYTES}
use Rattle.load_files.specs.declared.packages.Package.{Package}
use Rattle.packages_file.specs.PackagesFile.{packages_in}

-- the packages that bytes in a folder list, if they aren't more than all texts may have together
abbrev pub limited_in : (folder bytes : List ℕ) → Option (List Package)
limited_in folder bytes = if nat_lt MAX_BYTES (length bytes) then None else packages_in folder bytes

-- the packages that bytes at a path list: their references are resolved from the folder in which the file stands
abbrev pub listed_at : (file bytes : List ℕ) → Option (List Package)
listed_at file bytes = option_and_then (λ folder. limited_in folder bytes) (resolved file (codes ".."))

-- The packages of a packages file, by what a store gave for its path; nothing where the file is refused, as one that is absent is.
abbrev pub packages_at : (file : List ℕ) → Option (List ℕ) → Option (List Package)
packages_at file bytes = option_and_then (listed_at file) bytes
