-- The rows of the turns, by what they do to the state.
use Rattle.std.proofs.Common.{◌≡◌, ◌≢◌, ℕ, List, [], Bool, true, false, if◌then◌else◌, Option, None, Some, Result, Ok, Err, refl, sym, subst}
use Rattle.std.specs.Option.{option_map_or}
use Rattle.fault_io.specs.Stored.{Stored}
use Rattle.serve_loop.specs.Event.{Event, line, too_long}
use Rattle.proto_json.specs.Parameters.{has_paths, request_of}
use Rattle.proto_json.specs.Requests.{Head, head_by, method_named, answer, answer_to, answer_to_head, answer_to_method, answer_to_params, answer_to_request}
use Rattle.proto_json.specs.declared.code.Code.{Code}
use Rattle.proto_json.specs.declared.code.Code.TheVariants.{InvalidRequest, UnknownRequest, InvalidParameter, InvalidFilePathFormat, InvalidOverlayChange, GetErrorsInvalidFile, ProfileLimit, ServerError}
use Rattle.proto_json.specs.declared.reply.ErrorRow.{ErrorRow}
use Rattle.proto_json.specs.declared.reply.ReplyBody.TheVariants.{Plain, Errors}
use Rattle.proto_json.specs.declared.request.Asked.{Asked}
use Rattle.proto_json.specs.declared.request.Request.{Request}
use Rattle.proto_json.specs.declared.request.Request.TheVariants.{SetRoots, Reanalyze, Update, GetErrors, GetWork}
use Rattle.proto_json.specs.declared.request.RequestRefusal.{RequestRefusal}
use Rattle.proto_json.specs.declared.request.RequestRefusal.TheVariants.{Refused}
use Rattle.load_files.specs.Tables.{Table}
use Rattle.load_files.specs.declared.refusal.LoadRefusal.{LoadRefusal}
use Rattle.load_files.specs.declared.refusal.LoadRefusal.TheVariants as load_refusal
use Rattle.load_files.specs.declared.roots.Roots.{Roots}
use Rattle.overlays.specs.Applied.{applied}
use Rattle.overlays.specs.Tables.{PathsAndTexts}
use Rattle.overlays.specs.declared.refusal.OverlayRefusal.{OverlayRefusal}
use Rattle.overlays.specs.declared.refusal.OverlayRefusal.TheVariants.{BadChange, TooLong}
use Rattle.overlays.specs.declared.refusal.OverlayRefusal.TheVariants as overlay_refusal
use Rattle.diagnostics.specs.Rendering.{rows_of}
use Rattle.protocol_rules.proofs.AppliedLemmas.{applied-no_memory}
use Rattle.protocol_rules.specs.Files.{is_analyzed, text_of}
use Rattle.protocol_rules.specs.Limits.{passes_limit, AreWithin}
use Rattle.protocol_rules.specs.Reading.{IsReading}
use Rattle.protocol_rules.specs.Skipped.{is_skipped}
use Rattle.protocol_rules.specs.State.{State}
use Rattle.protocol_rules.specs.Turns.{Turn, IsTurn, IsLineTurn, IsRequestTurn, IsAskedTurn, IsErrorsTurnIf, refused_turn, invalid_turn, overlays_turn, updated_turn, read_turn, with_paths}

-- a turn with this id refuses, takes overlays or roots within the limits, or lists errors
pub data Row (mark : Bool) (s : State) (id : List ℕ) (t : Turn) : Type 0 where
  refuses : (code : Code) → t ≡ refused_turn s id code → (code ≡ ServerError → mark ≡ true) → Row mark s id t
  takes : (overlays : PathsAndTexts) → t ≡ record { id = id; body = Plain; after = record s { overlays = overlays } } → passes_limit s.snapshot overlays ≡ false → Row mark s id t
  lists : (rows : List ErrorRow) → t ≡ record { id = id; body = Errors rows; after = s } → Row mark s id t
  reads : (roots : Roots) (snapshot : Table) → t ≡ record { id = id; body = Plain; after = record s { roots = roots; snapshot = snapshot } } → AreWithin snapshot s.overlays → Row mark s id t

module _ (mark : Bool) (s : State) (id : List ℕ) where
  overlays_row : (overlays : PathsAndTexts) (passes : Bool) → passes_limit s.snapshot overlays ≡ passes → Row mark s id (overlays_turn s id overlays)
  overlays_row overlays true is = rw is (refuses ProfileLimit refl (λ z. cc))
  overlays_row overlays false is = rw is (takes overlays refl is)

  updated_row : (found : Result PathsAndTexts OverlayRefusal) → found ≢ Err overlay_refusal.Memory → Row mark s id (updated_turn s id found)
  updated_row (Ok overlays) answered = overlays_row overlays (passes_limit s.snapshot overlays) refl
  updated_row (Err (BadChange path)) answered = refuses InvalidOverlayChange refl (λ z. cc)
  updated_row (Err (TooLong path bytes)) answered = refuses ProfileLimit refl (λ z. cc)
  updated_row (Err overlay_refusal.Memory) answered = absurd (answered refl)

  errors_row : (file : List ℕ) (analyzed : Bool) (t : Turn) → IsErrorsTurnIf analyzed s id file t → Row mark s id t
  errors_row file true t h = lists (rows_of file (text_of s file) h.faults) h.turn
  errors_row file false t h = refuses GetErrorsInvalidFile h (λ z. cc)

  read_row : (told : Option Stored) (roots : Roots) (t : Turn) (found : Result Table LoadRefusal) → IsReading told mark roots s.overlays found → t ≡ read_turn s id roots found → Row mark s id t
  read_row told roots t (Ok snapshot) reading is = reads roots snapshot is reading.within
  read_row told roots t (Err load_refusal.FilesFault) reading is = refuses ServerError is (λ _. reading.marked refl)
  read_row told roots t (Err (load_refusal.TooManyFiles count)) reading is = refuses ProfileLimit is (λ z. cc)
  read_row told roots t (Err (load_refusal.TooDeep depth)) reading is = refuses ProfileLimit is (λ z. cc)
  read_row told roots t (Err (load_refusal.TooMuch bytes)) reading is = refuses ProfileLimit is (λ z. cc)
  read_row told roots t (Err load_refusal.Memory) reading is = absurd (reading.answered refl)

  asked_row : (told : Option Stored) (request : Request) (t : Turn) → IsAskedTurn told mark s id request t → Row mark s id t
  asked_row told (SetRoots included excluded) t h = read_row told (with_paths s.roots included excluded) t h.found h.reading h.turn
  asked_row told Reanalyze t h = read_row told s.roots t h.found h.reading h.turn
  asked_row told (Update files) t h = subst (Row mark s id) (sym h) (updated_row (applied files s.overlays) (applied-no_memory files s.overlays))
  asked_row told (GetErrors file) t h = errors_row file (is_analyzed s file) t h
  asked_row told GetWork t h = refuses UnknownRequest h (λ z. cc)

  -- by the format of its paths
  request_row : (told : Option Stored) (request : Request) (t : Turn) → IsRequestTurn told mark s (answer_to_request id request) t → Row mark s id t
  request_row told request t =
      elim (has_paths request) as (λ has. IsRequestTurn told mark s (if has then Ok (record { id = id; request = request }) else Err (Refused id InvalidFilePathFormat)) t → Row mark s id t)
      [ true ↦ asked_row told request t | false ↦ (λ h. refuses InvalidFilePathFormat h (λ z. cc)) ]

  -- by its parameters
  params_row : (told : Option Stored) (request : Option Request) (t : Turn) → IsRequestTurn told mark s (answer_to_params id request) t → Row mark s id t
  params_row told None t h = refuses InvalidParameter h (λ z. cc)
  params_row told (Some request) t h = request_row told request t h

-- by its method
head_row : (mark : Bool) (s : State) (told : Option Stored) (h : Head) (t : Turn) → IsRequestTurn told mark s (answer_to_head h) t → Row mark s h.id t
head_row mark s told h t =
    elim (method_named h.method) as (λ m. IsRequestTurn told mark s (answer_to_method h.id m h.params) t → Row mark s h.id t)
    [ None ↦ (λ is. refuses UnknownRequest is (λ z. cc)) | Some m ↦ params_row mark s h.id told (request_of m h.params) t ]

-- the id of a line: that of its request object, or the empty one
abbrev pub id_of : Option Head → List ℕ
id_of head = option_map_or (λ h. h.id) head []

object_row : (mark : Bool) (s : State) (told : Option Stored) (head : Option Head) (t : Turn) → IsRequestTurn told mark s (answer_to head) t → Row mark s (id_of head) t
object_row mark s told None t h = refuses InvalidRequest h (λ z. cc)
object_row mark s told (Some head) t h = head_row mark s told head t h

-- what is a turn where a line isn't skipped is a request's
pub request_turn : (told : Option Stored) (mark : Bool) (s : State) (skipped : Bool) (request : Result Asked RequestRefusal) (t : Turn) → IsLineTurn told mark s skipped request (Some t) → IsRequestTurn told mark s request t
request_turn told mark s true request t h = absurd h
request_turn told mark s false request t h = h

-- the row of a line
pub line_row : (told : Option Stored) (mark : Bool) (s : State) (bytes : List ℕ) (t : Turn) → IsTurn told mark s (line bytes) (Some t) → Row mark s (id_of (head_by bytes)) t
line_row told mark s bytes t h = object_row mark s told (head_by bytes) t (request_turn told mark s (is_skipped bytes) (answer bytes) t h)

-- the row of a line that is too long
long_row : (mark : Bool) (s : State) (t : Turn) → Some t ≡ Some (invalid_turn s) → Row mark s [] t
long_row mark s t is = refuses InvalidRequest (cc) (λ z. cc)

-- the row of any event
pub event_row : (told : Option Stored) (mark : Bool) (s : State) (event : Event) (t : Turn) → IsTurn told mark s event (Some t) → (id : List ℕ) × Row mark s id t
event_row told mark s too_long t h = ([], long_row mark s t h)
event_row told mark s (line bytes) t h = (id_of (head_by bytes), line_row told mark s bytes t h)
