-- What a session may answer to an event.
use Rattle.std.specs.Prelude.{◌≡◌, ℕ, List, Bool, true, false, Option, option_map, Result, Ok, Err, ◌&&◌, not}
use Rattle.std.specs.Option.{option_map_or}
use Rattle.fault_io.specs.Stored.{Stored}
use Rattle.serve_loop.specs.Event.{Event, line, too_long}
use Rattle.proto_json.specs.Requests.{answer}
use Rattle.proto_json.specs.declared.request.Asked.{Asked}
use Rattle.proto_json.specs.declared.request.Request.{Request}
use Rattle.proto_json.specs.declared.request.Request.TheVariants.{SetRoots, Reanalyze, Update, GetErrors, GetWork}
use Rattle.proto_json.specs.declared.request.RequestRefusal.{RequestRefusal}
use Rattle.protocol_rules.specs.State.{State}
use Rattle.protocol_rules.specs.Skipped.{is_skipped}
use Rattle.protocol_rules.specs.Turns.{Turn, IsTurn, bytes_of}

-- the requests for which the store is asked
abbrev pub reads_store : Request → Bool
reads_store (SetRoots included excluded) = true
reads_store Reanalyze = true
reads_store (Update files) = false
reads_store (GetErrors file) = false
reads_store GetWork = false

-- a line that is refused before its request is known asks for nothing
abbrev pub request_uses_store : Result Asked RequestRefusal → Bool
request_uses_store (Ok asked) = reads_store asked.request
request_uses_store (Err refusal) = false

-- the lines for which the store is asked: those of `analysis.setAnalysisRoots` and `analysis.reanalyze`
abbrev pub uses_store : Event → Bool
uses_store too_long = false
uses_store (line bytes) = not (is_skipped bytes) && request_uses_store (answer bytes)

-- the reply, and the state after it, are those of a turn
pub record MayAnswer (told : Option Stored) (s : State) (event : Event) (mark : Bool) (reply : Option (List ℕ)) (after : State) : Type 0 where
  pub turn : Option Turn
  pub is_turn : IsTurn told mark s event turn
  pub reply_is : reply ≡ option_map bytes_of turn
  pub after_is : after ≡ option_map_or (λ t. t.after) turn s
