-- What a function that answers a request hands back.
use Rattle.std.specs.Prelude.{◌≡◌, ℕ, Bool, true, List, Option, Some, unwrap_or, Result}
use Rattle.fault_io.specs.Stored.{Stored}
use Rattle.serve_loop.specs.Event.{Event}
use Rattle.serve_loop.specs.Marks.{Tells}
use Rattle.proto_json.specs.declared.request.Asked.{Asked}
use Rattle.proto_json.specs.declared.request.Request.{Request}
use Rattle.proto_json.specs.declared.request.RequestRefusal.{RequestRefusal}
use Rattle.load_files.specs.declared.roots.Roots.{Roots}
use Rattle.protocol_rules.specs.Answers.{reads_store, request_uses_store, uses_store, MayAnswer}
use Rattle.protocol_rules.specs.State.{State}
use Rattle.protocol_rules.specs.Turns.{Turn, IsReadTurn, IsAskedTurn, IsRequestTurn, bytes_of}
use Rattle.request_core.specs.declared.said.Said.{Said}

-- the turn that was said in a state, which stays where the answer has no other
abbrev pub turn_of : Said → State → Turn
turn_of said s = record { id = said.id; body = said.body; after = unwrap_or said.after s }

-- `told` is what the store tells, `old` and `new` count its faults before and after
module _ (told : Option Stored) (old new : ℕ) (s : State) where
  -- roots were read
  pub record IsRead (id : List ℕ) (roots : Roots) (said : Said) : Type 0 where
    pub mark : Bool
    pub tells : Tells true mark old new
    pub turn : IsReadTurn told mark s id roots (turn_of said s)

  -- a request was answered
  pub record IsAsked (id : List ℕ) (request : Request) (said : Said) : Type 0 where
    pub mark : Bool
    pub tells : Tells (reads_store request) mark old new
    pub turn : IsAskedTurn told mark s id request (turn_of said s)

  -- a line was answered that isn't skipped
  pub record IsHeard (request : Result Asked RequestRefusal) (said : Said) : Type 0 where
    pub mark : Bool
    pub tells : Tells (request_uses_store request) mark old new
    pub turn : IsRequestTurn told mark s request (turn_of said s)

  -- an event was answered by these bytes, and left this state
  pub record IsAnswered (event : Event) (bytes : Option (List ℕ)) (after : State) : Type 0 where
    pub mark : Bool
    pub tells : Tells (uses_store event) mark old new
    pub answers : MayAnswer told s event mark bytes after

-- these are the bytes of the reply, whatever the state after it is
abbrev pub AreBytesOf : Said → Option (List ℕ) → Type 0
AreBytesOf said bytes = (s : State) → bytes ≡ Some (bytes_of (turn_of said s))
