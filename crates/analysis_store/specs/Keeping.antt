-- What a checker keeps of the files that it linked.
use Rattle.std.specs.Prelude.{◌≡◌}
use Rattle.protocol_rules.specs.State.{State}
use Rattle.analysis_store.specs.declared.recent.Kept.{Kept}
use Rattle.analysis_store.specs.declared.recent.Kept.TheVariants.{Nothing, Current, Earlier}

-- what is kept as current are the files of these contents
abbrev pub IsCurrent : State → Kept → Type 0
IsCurrent contents Nothing = Unit {0}
IsCurrent contents (Current reading) = reading ≡ contents
IsCurrent contents (Earlier reading) = Unit {0}
