-- What is counted of files and overlays.
use Rattle.std.specs.Prelude.{◌≡◌, ◌≤◌, ◌+◌, ℕ, not, List, length, count_by, sum_by}
use Rattle.load_files.specs.Contents.{size_of}
use Rattle.load_files.specs.Kept.{is_kept, bytes_of}
use Rattle.load_files.specs.Tables.{Table}
use Rattle.load_files.specs.declared.kept.KeptFile.{KeptFile}
use Rattle.load_files.specs.declared.loading.TheConstants.{MAX_PATHS, MAX_BYTES}

-- the distinct paths: those of the overlays, and those of the files without one
abbrev pub path_count : List KeptFile → Table → ℕ
path_count kept table = length kept + count_by (λ file. not (is_kept file.0 kept)) table

-- the bytes of the overlays and of the files
abbrev pub byte_count : List KeptFile → Table → ℕ
byte_count kept table = bytes_of kept + sum_by (λ file. size_of file.1) table

-- neither is past its limit
pub record IsWithinLimits (kept : List KeptFile) (table : Table) : Type 0 where
  pub paths : path_count kept table ≤ MAX_PATHS
  pub bytes : byte_count kept table ≤ MAX_BYTES

-- these are the counts, and they are within the limits
pub record IsCounted (kept : List KeptFile) (table : Table) (paths bytes : ℕ) : Type 0 where
  pub paths_are : paths ≡ path_count kept table
  pub bytes_are : bytes ≡ byte_count kept table
  pub within : IsWithinLimits kept table
