-- The limits on the snapshot and the overlays together.
use Rattle.std.specs.Prelude.{ℕ, Bool, ◌||◌, List, length, map, nat_lt, sum_by}
use Rattle.load_files.specs.Counts.{path_count, byte_count, IsWithinLimits}
use Rattle.load_files.specs.Tables.{Table}
use Rattle.load_files.specs.declared.kept.KeptFile.{KeptFile}
use Rattle.load_files.specs.declared.loading.TheConstants.{MAX_PATHS, MAX_BYTES}
use Rattle.overlays.specs.Tables.{PathsAndTexts}

-- the overlays as they count in the limits: each with its path and the bytes of its text
abbrev pub kept_in : PathsAndTexts → List KeptFile
kept_in overlays = map (λ e. record { path = e.0; bytes = length e.1 }) overlays

-- the bytes of all texts together
abbrev pub bytes_in : PathsAndTexts → ℕ
bytes_in overlays = sum_by (λ e. length e.1) overlays

-- there are too many distinct paths, or too many bytes
unfoldable pub passes_limit : Table → PathsAndTexts → Bool
passes_limit snapshot overlays =
    nat_lt MAX_PATHS (path_count (kept_in overlays) snapshot) || nat_lt MAX_BYTES (byte_count (kept_in overlays) snapshot)

-- both are within the limits
abbrev pub AreWithin : Table → PathsAndTexts → Type 0
AreWithin snapshot overlays = IsWithinLimits (kept_in overlays) snapshot
