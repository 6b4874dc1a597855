-- The reply to an event, and the state after it.
use Rattle.std.specs.Prelude.{◌≡◌, ℕ, List, [], Bool, true, false, if◌then◌else◌, Option, None, Some, Result, Ok, Err}
use Rattle.judgement.specs.declared.fault.Fault.{Fault}
use Rattle.fault_io.specs.Stored.{Stored}
use Rattle.serve_loop.specs.Event.{Event, line, too_long}
use Rattle.proto_json.specs.Requests.{answer}
use Rattle.proto_json.specs.Replies.{reply_line}
use Rattle.proto_json.specs.declared.request.Asked.{Asked}
use Rattle.proto_json.specs.declared.request.Request.{Request}
use Rattle.proto_json.specs.declared.request.Request.TheVariants.{SetRoots, Reanalyze, Update, GetErrors, GetWork}
use Rattle.proto_json.specs.declared.request.RequestRefusal.{RequestRefusal}
use Rattle.proto_json.specs.declared.request.RequestRefusal.TheVariants.{Refused, Memory}
use Rattle.proto_json.specs.declared.code.Code.{Code}
use Rattle.proto_json.specs.declared.code.Code.TheVariants.{InvalidRequest, UnknownRequest, InvalidOverlayChange, GetErrorsInvalidFile, ProfileLimit, ServerError}
use Rattle.proto_json.specs.declared.reply.ReplyBody.{ReplyBody}
use Rattle.proto_json.specs.declared.reply.ReplyBody.TheVariants.{Plain, Errors, Error}
use Rattle.proto_json.specs.declared.overlay.FileOverlay.{FileOverlay}
use Rattle.load_files.specs.Tables.{Table}
use Rattle.load_files.specs.declared.refusal.LoadRefusal.{LoadRefusal}
use Rattle.load_files.specs.declared.refusal.LoadRefusal.TheVariants as load_refusal
use Rattle.load_files.specs.declared.roots.Roots.{Roots}
use Rattle.overlays.specs.Applied.{applied}
use Rattle.overlays.specs.Tables.{PathsAndTexts}
use Rattle.overlays.specs.declared.refusal.OverlayRefusal.{OverlayRefusal}
use Rattle.overlays.specs.declared.refusal.OverlayRefusal.TheVariants.{BadChange, TooLong}
use Rattle.overlays.specs.declared.refusal.OverlayRefusal.TheVariants as overlay_refusal
use Rattle.diagnostics.specs.Rendering.{rows_of}
use Rattle.protocol_rules.specs.State.{State}
use Rattle.protocol_rules.specs.Files.{is_analyzed, text_of, AreDiagnosticsOf}
use Rattle.protocol_rules.specs.Limits.{passes_limit}
use Rattle.protocol_rules.specs.Reading.{IsReading}
use Rattle.protocol_rules.specs.Skipped.{is_skipped}

-- a reply, and the state after it
pub record Turn : Type 0 where
  pub id : List ℕ
  pub body : ReplyBody
  pub after : State

-- a refusal leaves the state as it was
abbrev pub refused_turn : State → List ℕ → Code → Turn
refused_turn s id code = record { id = id; body = Error code; after = s }

-- what is said to a line that is no request
abbrev pub invalid_turn : State → Turn
invalid_turn s = refused_turn s [] InvalidRequest

-- the overlays are taken, if they keep within the limits together with the snapshot
abbrev pub overlays_turn : State → List ℕ → PathsAndTexts → Turn
overlays_turn s id overlays =
    if passes_limit s.snapshot overlays then refused_turn s id ProfileLimit
    else record { id = id; body = Plain; after = record s { overlays = overlays } }

-- an update by what its files make of the overlays; a text that is too long is past a limit, too
abbrev pub updated_turn : State → List ℕ → Result PathsAndTexts OverlayRefusal → Turn
updated_turn s id (Ok overlays) = overlays_turn s id overlays
updated_turn s id (Err (BadChange path)) = refused_turn s id InvalidOverlayChange
updated_turn s id (Err (TooLong path bytes)) = refused_turn s id ProfileLimit
updated_turn s id (Err overlay_refusal.Memory) = invalid_turn s

-- An update applies its files to the overlays, all of them or none.
abbrev pub update_turn : State → List ℕ → List FileOverlay → Turn
update_turn s id files = updated_turn s id (applied files s.overlays)

-- a method that this server doesn't serve yet, though it reads its parameters
abbrev pub unserved_turn : State → List ℕ → Turn
unserved_turn s id = refused_turn s id UnknownRequest

-- the errors of a file are these of its diagnostics, with the lines and columns of its text
abbrev pub errors_turn : State → List ℕ → List ℕ → List Fault → Turn
errors_turn s id file faults = record { id = id; body = Errors (rows_of file (text_of s file) faults); after = s }

-- The errors of a file are its diagnostics; asking changes nothing.
pub record IsErrorsTurn (s : State) (id file : List ℕ) (t : Turn) : Type 0 where
  pub faults : List Fault
  pub diagnostics : AreDiagnosticsOf s file faults
  pub turn : t ≡ errors_turn s id file faults

-- errors are told of a file that is analyzed, and of no other
abbrev pub IsErrorsTurnIf : (analyzed : Bool) → State → List ℕ → List ℕ → Turn → Type 0
IsErrorsTurnIf true s id file t = IsErrorsTurn s id file t
IsErrorsTurnIf false s id file t = t ≡ refused_turn s id GetErrorsInvalidFile

-- roots by what their reading came to: they and the snapshot are taken, or the state stays
abbrev pub read_turn : State → List ℕ → Roots → Result Table LoadRefusal → Turn
read_turn s id roots (Ok snapshot) = record { id = id; body = Plain; after = record s { roots = roots; snapshot = snapshot } }
read_turn s id roots (Err load_refusal.FilesFault) = refused_turn s id ServerError
read_turn s id roots (Err (load_refusal.TooManyFiles count)) = refused_turn s id ProfileLimit
read_turn s id roots (Err (load_refusal.TooDeep depth)) = refused_turn s id ProfileLimit
read_turn s id roots (Err (load_refusal.TooMuch bytes)) = refused_turn s id ProfileLimit
read_turn s id roots (Err load_refusal.Memory) = invalid_turn s

-- Roots are read, and what that comes to rests on the store.
pub record IsReadTurn (told : Option Stored) (mark : Bool) (s : State) (id : List ℕ) (roots : Roots) (t : Turn) : Type 0 where
  pub found : Result Table LoadRefusal
  pub reading : IsReading told mark roots s.overlays found
  pub turn : t ≡ read_turn s id roots found

-- other roots over the same packages
abbrev pub with_paths : Roots → (included excluded : List (List ℕ)) → Roots
with_paths roots included excluded = record roots { included = included; excluded = excluded }

-- one row for each request: these turns it may have, by what the store tells and the mark that says whether the store failed
abbrev pub IsAskedTurn : Option Stored → Bool → State → List ℕ → Request → Turn → Type 0
IsAskedTurn told mark s id (SetRoots included excluded) t = IsReadTurn told mark s id (with_paths s.roots included excluded) t
IsAskedTurn told mark s id Reanalyze t = IsReadTurn told mark s id s.roots t
IsAskedTurn told mark s id (Update files) t = t ≡ update_turn s id files
IsAskedTurn told mark s id (GetErrors file) t = IsErrorsTurnIf (is_analyzed s file) s id file t
IsAskedTurn told mark s id GetWork t = t ≡ unserved_turn s id

-- a request, or the refusal of a line; want of memory is no reading of a line
abbrev pub IsRequestTurn : Option Stored → Bool → State → Result Asked RequestRefusal → Turn → Type 0
IsRequestTurn told mark s (Ok asked) t = IsAskedTurn told mark s asked.id asked.request t
IsRequestTurn told mark s (Err (Refused id code)) t = t ≡ refused_turn s id code
IsRequestTurn told mark s (Err Memory) t = t ≡ invalid_turn s

-- the turn of a line, none where it is skipped
abbrev pub IsLineTurn : Option Stored → Bool → State → (skipped : Bool) → Result Asked RequestRefusal → Option Turn → Type 0
IsLineTurn told mark s true request None = Unit {0}
IsLineTurn told mark s true request (Some t) = ⊥
IsLineTurn told mark s false request None = ⊥
IsLineTurn told mark s false request (Some t) = IsRequestTurn told mark s request t

-- The turn of an event: exactly one reply, but for a line that is skipped.
abbrev pub IsTurn : Option Stored → Bool → State → Event → Option Turn → Type 0
IsTurn told mark s too_long turn = turn ≡ Some (invalid_turn s)
IsTurn told mark s (line bytes) turn = IsLineTurn told mark s (is_skipped bytes) (answer bytes) turn

-- the bytes of a reply
abbrev pub bytes_of : Turn → List ℕ
bytes_of t = reply_line t.id t.body
