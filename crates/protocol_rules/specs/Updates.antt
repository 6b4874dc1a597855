-- What an update may come to.
use Rattle.std.specs.Prelude.{◌≡◌, ◌⊎◌, List, false, Ok}
use Rattle.proto_json.specs.declared.code.Code.{Code}
use Rattle.proto_json.specs.declared.overlay.FileOverlay.{FileOverlay}
use Rattle.proto_json.specs.declared.reply.ReplyBody.TheVariants.{Plain, Error}
use Rattle.overlays.specs.Applied.{applied}
use Rattle.protocol_rules.specs.State.{State}
use Rattle.protocol_rules.specs.Limits.{passes_limit}
use Rattle.protocol_rules.specs.Turns.{Turn}

-- the update is done: the overlays are those that all its files make of the old ones, within the limits
pub record TakesAll (s : State) (files : List FileOverlay) (t : Turn) : Type 0 where
  pub done : t.body ≡ Plain
  pub overlays : applied files s.overlays ≡ Ok t.after.overlays
  pub within : passes_limit s.snapshot t.after.overlays ≡ false
  pub rest : t.after ≡ record s { overlays = t.after.overlays }

-- the update is refused: the state is as before
pub record TakesNone (s : State) (t : Turn) : Type 0 where
  pub code : Code
  pub refused : t.body ≡ Error code
  pub kept : t.after ≡ s

-- all files of the update are taken, or none
abbrev pub TakesAllOrNone : State → List FileOverlay → Turn → Type 0
TakesAllOrNone s files t = TakesAll s files t ⊎ TakesNone s t
