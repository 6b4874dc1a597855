-- The overlays that count in the limits.
use Rattle.std.specs.Prelude.{ℕ, Bool, true, not, ◌&&◌, List, [], ◌∷◌, length, nat_le, sum_by, bytes_eq}
use Rattle.std.specs.List.{list_any}
use Rattle.load_files.specs.declared.kept.KeptFile.{KeptFile}
use Rattle.load_files.specs.declared.loading.TheConstants.{MAX_PATHS, MAX_BYTES}

-- one of them has this path
abbrev pub is_kept : List ℕ → List KeptFile → Bool
is_kept path kept = list_any (λ file. bytes_eq file.path path) kept

-- the bytes of all of them together
abbrev pub bytes_of : List KeptFile → ℕ
bytes_of kept = sum_by (λ file. file.bytes) kept

-- no two have the same path
abbrev pub are_distinct : List KeptFile → Bool
are_distinct [] = true
are_distinct (file ∷ more) = not (is_kept file.path more) && are_distinct more

-- they are within the limits by themselves, and their paths are distinct
abbrev pub are_kept : List KeptFile → Bool
are_kept kept = nat_le (length kept) MAX_PATHS && (nat_le (bytes_of kept) MAX_BYTES && are_distinct kept)
