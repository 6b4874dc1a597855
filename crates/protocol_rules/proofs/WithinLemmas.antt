-- Snapshots and overlays within the limits.
use Rattle.std.proofs.Common.{◌≡◌, ◌≤◌, Bool, true, false, ◌||◌, [], length, refl, arith}
use Rattle.std.proofs.lemmas.Bool.{ltb-false, le-leb, true≢false}
use Rattle.load_files.specs.Kept.{are_kept, bytes_of}
use Rattle.load_files.specs.Tables.{Table}
use Rattle.load_files.specs.declared.loading.TheConstants.{MAX_PATHS, MAX_BYTES}
use Rattle.overlays.specs.Tables.{PathsAndTexts, IsInOrder}
use Rattle.protocol_rules.specs.Limits.{kept_in, passes_limit, AreWithin}
use Rattle.protocol_rules.proofs.KeptLemmas.{are_distinct_in}

-- nothing is within the limits
pub none_within : AreWithin [] []
none_within = record { paths = omega arith; bytes = omega arith }

-- neither of two tests holds
neither : (a b : Bool) → (a || b) ≡ false → (a ≡ false) × (b ≡ false)
neither true b is = absurd (true≢false is)
neither false b is = (refl, is)

-- what passes no limit is within them
pub within_by : (snapshot : Table) (overlays : PathsAndTexts) → passes_limit snapshot overlays ≡ false → AreWithin snapshot overlays
unfolding passes_limit
within_by snapshot overlays is =
    let both = neither _ _ is in
    record { paths = ltb-false _ _ both.0; bytes = ltb-false _ _ both.1 }

-- overlays in order, within the limits beside a snapshot, may be read beside
pub are_kept_in : (snapshot : Table) (overlays : PathsAndTexts) → IsInOrder overlays → AreWithin snapshot overlays → are_kept (kept_in overlays) ≡ true
are_kept_in snapshot overlays order within =
    let few : length (kept_in overlays) ≤ MAX_PATHS = omega (arith, within.paths) in
    let small : bytes_of (kept_in overlays) ≤ MAX_BYTES = omega (arith, within.bytes) in
    rw (le-leb _ _ few, le-leb _ _ small) (are_distinct_in overlays order)
