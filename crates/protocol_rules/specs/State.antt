-- The state of a session.
use Rattle.std.specs.Prelude.{List, []}
use Rattle.load_files.specs.Tables.{Table}
use Rattle.load_files.specs.declared.packages.Package.{Package}
use Rattle.load_files.specs.declared.roots.Roots.{Roots}
use Rattle.overlays.specs.Tables.{PathsAndTexts}

-- the roots, what the store had there when they were last read, and the texts that the client has given
pub record State : Type 0 where
  pub roots : Roots
  pub snapshot : Table
  pub overlays : PathsAndTexts

-- at the start all but the packages is empty
abbrev pub at_start : List Package → State
at_start packages = record { roots = record { included = []; excluded = []; packages = packages }; snapshot = []; overlays = [] }
