-- What the checker of a session holds.
use Rattle.std.specs.Prelude.{◌≡◌, ◌⊎◌, []}
use Rattle.protocol_rules.specs.State.{State}

-- there is no file
pub record HasNoFile (s : State) : Type 0 where
  pub no_snapshot : s.snapshot ≡ []
  pub no_overlays : s.overlays ≡ []

-- a checker holds the contents of its session, or was not handed these yet since they have no file
abbrev pub Holds : (held contents : State) → Type 0
Holds held contents = (held ≡ contents) ⊎ HasNoFile contents
