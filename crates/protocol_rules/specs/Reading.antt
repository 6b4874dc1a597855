-- What the reading of roots may come to.
use Rattle.std.specs.Prelude.{◌≡◌, ◌≢◌, Bool, true, Option, Result, Ok, Err, IfOk, IfErr}
use Rattle.std.specs.Option.{ForSome}
use Rattle.fault_io.specs.Stored.{Stored}
use Rattle.load_files.specs.Causes.{PassesItsLimit}
use Rattle.load_files.specs.Loads.{loaded}
use Rattle.load_files.specs.Tables.{Table}
use Rattle.load_files.specs.declared.refusal.LoadRefusal.{LoadRefusal}
use Rattle.load_files.specs.declared.refusal.LoadRefusal.TheVariants.{FilesFault, Memory}
use Rattle.load_files.specs.declared.roots.Roots.{Roots}
use Rattle.overlays.specs.Tables.{PathsAndTexts}
use Rattle.protocol_rules.specs.Limits.{kept_in, AreWithin}
use Rattle.protocol_rules.specs.State.{State}

-- By what the store tells and a mark that says whether it failed: a snapshot of the roots, or why there is none. A store that tells its files and doesn't fail settles it.
pub record IsReading (told : Option Stored) (mark : Bool) (roots : Roots) (overlays : PathsAndTexts) (found : Result Table LoadRefusal) : Type 0 where
  -- a fault is found exactly where the store failed
  pub failed : mark ≡ true → found ≡ Err FilesFault
  pub marked : found ≡ Err FilesFault → mark ≡ true
  pub exact : found ≢ Err FilesFault → ForSome told (λ stored. found ≡ loaded stored roots (kept_in overlays))
  -- whatever the store, a snapshot keeps within the limits together with the overlays, and a limit is named only with a number past it
  pub within : IfOk found (λ snapshot. AreWithin snapshot overlays)
  pub passed : IfErr found PassesItsLimit
  pub answered : found ≢ Err Memory

-- the snapshot in the contents that a reading leaves, or why there are none
abbrev pub snapshot_in : Result State LoadRefusal → Result Table LoadRefusal
snapshot_in (Ok s) = Ok s.snapshot
snapshot_in (Err refusal) = Err refusal
