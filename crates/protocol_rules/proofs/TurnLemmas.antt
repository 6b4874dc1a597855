-- What all refusals, all replies and all updates have in common.
use Rattle.std.proofs.Common.{◌≡◌, ℕ, List, Bool, true, false, not, ◌&&◌, Option, Some, Result, Ok, Err, inl, inr, refl, sym, ap, subst, ◌∙◌}
use Rattle.fault_io.specs.Stored.{Stored}
use Rattle.serve_loop.specs.Event.{Event, line, too_long}
use Rattle.proto_json.specs.Requests.{head_by, answer}
use Rattle.proto_json.specs.declared.code.Code.{Code}
use Rattle.proto_json.specs.declared.code.Code.TheVariants.{ServerError}
use Rattle.proto_json.specs.declared.overlay.FileOverlay.{FileOverlay}
use Rattle.proto_json.specs.declared.reply.ReplyBody.TheVariants.{Error}
use Rattle.proto_json.specs.declared.request.Asked.{Asked}
use Rattle.proto_json.specs.declared.request.Request.{Request}
use Rattle.proto_json.specs.declared.request.Request.TheVariants.{SetRoots, Reanalyze, Update, GetErrors, GetWork}
use Rattle.proto_json.specs.declared.request.RequestRefusal.{RequestRefusal}
use Rattle.load_files.specs.Tables.{Table}
use Rattle.load_files.specs.declared.refusal.LoadRefusal.{LoadRefusal}
use Rattle.load_files.specs.declared.roots.Roots.{Roots}
use Rattle.overlays.specs.Applied.{applied}
use Rattle.overlays.specs.Tables.{PathsAndTexts}
use Rattle.overlays.specs.declared.refusal.OverlayRefusal.{OverlayRefusal}
use Rattle.overlays.specs.declared.refusal.OverlayRefusal.TheVariants.{BadChange, TooLong, Memory}
use Rattle.protocol_rules.proofs.Rows.{Row, refuses, takes, lists, reads, id_of, request_turn, line_row, event_row}
use Rattle.protocol_rules.proofs.WithinLemmas.{within_by}
use Rattle.std.proofs.lemmas.Bool.{false≢true}
use Rattle.protocol_rules.specs.Answers.{uses_store, request_uses_store, reads_store}
use Rattle.protocol_rules.specs.Limits.{passes_limit, AreWithin}
use Rattle.protocol_rules.specs.Skipped.{is_skipped}
use Rattle.protocol_rules.specs.State.{State}
use Rattle.protocol_rules.specs.Turns.{Turn, IsTurn, IsLineTurn, IsRequestTurn, IsAskedTurn, IsReadTurn, overlays_turn, updated_turn, read_turn, with_paths}
use Rattle.protocol_rules.specs.Updates.{TakesAllOrNone}

-- a refusal leaves the state as it was
row-keeps : (mark : Bool) (s : State) (id : List ℕ) (t : Turn) → Row mark s id t → (code : Code) → t.body ≡ Error code → t.after ≡ s
row-keeps mark s id t (refuses code is marked) other body = ap (λ (v : Turn). v.after) is
row-keeps mark s id t (takes overlays is within) code body = let plain = ap (λ (v : Turn). v.body) is in cc
row-keeps mark s id t (lists rows is) code body = let listed = ap (λ (v : Turn). v.body) is in cc
row-keeps mark s id t (reads roots snapshot is within) code body = let plain = ap (λ (v : Turn). v.body) is in cc

pub turn-keeps : (s : State) (told : Option Stored) (mark : Bool) (event : Event) (t : Turn) → IsTurn told mark s event (Some t) → (code : Code) → t.body ≡ Error code → t.after ≡ s
turn-keeps s told mark event t h = let row = event_row told mark s event t h in row-keeps mark s row.0 t row.1

-- a reply has its id
row-id : (mark : Bool) (s : State) (id : List ℕ) (t : Turn) → Row mark s id t → t.id ≡ id
row-id mark s id t (refuses code is marked) = ap (λ (v : Turn). v.id) is
row-id mark s id t (takes overlays is within) = ap (λ (v : Turn). v.id) is
row-id mark s id t (lists rows is) = ap (λ (v : Turn). v.id) is
row-id mark s id t (reads roots snapshot is within) = ap (λ (v : Turn). v.id) is

pub turn-id : (s : State) (bytes : List ℕ) (told : Option Stored) (mark : Bool) (t : Turn) → IsTurn told mark s (line bytes) (Some t) → t.id ≡ id_of (head_by bytes)
turn-id s bytes told mark t h = row-id mark s (id_of (head_by bytes)) t (line_row told mark s bytes t h)

-- files and texts stay within the limits
row-within : (mark : Bool) (s : State) (id : List ℕ) (t : Turn) → AreWithin s.snapshot s.overlays → Row mark s id t → AreWithin t.after.snapshot t.after.overlays
row-within mark s id t h (refuses code is marked) = subst (λ (v : Turn). AreWithin v.after.snapshot v.after.overlays) (sym is) h
row-within mark s id t h (takes overlays is passes) = subst (λ (v : Turn). AreWithin v.after.snapshot v.after.overlays) (sym is) (within_by s.snapshot overlays passes)
row-within mark s id t h (lists rows is) = subst (λ (v : Turn). AreWithin v.after.snapshot v.after.overlays) (sym is) h
row-within mark s id t h (reads roots snapshot is within) = subst (λ (v : Turn). AreWithin v.after.snapshot v.after.overlays) (sym is) within

pub turn-within : (s : State) → AreWithin s.snapshot s.overlays → (told : Option Stored) (mark : Bool) (event : Event) (t : Turn) → IsTurn told mark s event (Some t) → AreWithin t.after.snapshot t.after.overlays
turn-within s within told mark event t h = let row = event_row told mark s event t h in row-within mark s row.0 t within row.1

-- a fault of the store is told only where it failed
row-told : (mark : Bool) (s : State) (id : List ℕ) (t : Turn) → Row mark s id t → t.body ≡ Error ServerError → mark ≡ true
row-told mark s id t (refuses code is marked) body = let refused = ap (λ (v : Turn). v.body) is in marked cc
row-told mark s id t (takes overlays is within) body = let plain = ap (λ (v : Turn). v.body) is in cc
row-told mark s id t (lists rows is) body = let listed = ap (λ (v : Turn). v.body) is in cc
row-told mark s id t (reads roots snapshot is within) body = let plain = ap (λ (v : Turn). v.body) is in cc

pub turn-told : (s : State) (told : Option Stored) (mark : Bool) (event : Event) (t : Turn) → IsTurn told mark s event (Some t) → t.body ≡ Error ServerError → mark ≡ true
turn-told s told mark event t h = let row = event_row told mark s event t h in row-told mark s row.0 t row.1

-- and where it failed it is told
read-came : (told : Option Stored) (s : State) (id : List ℕ) (roots : Roots) (t : Turn) → IsReadTurn told true s id roots t → t.body ≡ Error ServerError
read-came told s id roots t h = ap (λ (v : Turn). v.body) (h.turn ∙ ap (λ (found : Result Table LoadRefusal). read_turn s id roots found) (h.reading.failed refl))

asked-came : (told : Option Stored) (s : State) (id : List ℕ) (request : Request) (t : Turn) → reads_store request ≡ true → IsAskedTurn told true s id request t → t.body ≡ Error ServerError
asked-came told s id (SetRoots included excluded) t uses h = read-came told s id (with_paths s.roots included excluded) t h
asked-came told s id Reanalyze t uses h = read-came told s id s.roots t h
asked-came told s id (Update files) t uses h = absurd (false≢true uses)
asked-came told s id (GetErrors file) t uses h = absurd (false≢true uses)
asked-came told s id GetWork t uses h = absurd (false≢true uses)

request-came : (told : Option Stored) (s : State) (request : Result Asked RequestRefusal) (t : Turn) → request_uses_store request ≡ true → IsRequestTurn told true s request t → t.body ≡ Error ServerError
request-came told s (Err refusal) t uses h = absurd (false≢true uses)
request-came told s (Ok asked) t uses h = asked-came told s asked.id asked.request t uses h

line-came : (told : Option Stored) (s : State) (skipped : Bool) (request : Result Asked RequestRefusal) (t : Turn) → (not skipped && request_uses_store request) ≡ true → IsLineTurn told true s skipped request (Some t) → t.body ≡ Error ServerError
line-came told s true request t uses h = absurd h
line-came told s false request t uses h = request-came told s request t uses h

pub turn-came : (s : State) (told : Option Stored) (event : Event) (t : Turn) → uses_store event ≡ true → IsTurn told true s event (Some t) → t.body ≡ Error ServerError
turn-came s told too_long t uses h = absurd (false≢true uses)
turn-came s told (line bytes) t uses h = line-came told s (is_skipped bytes) (answer bytes) t uses h

-- an update takes all its files, or none
overlays_turn-takes : (s : State) (id : List ℕ) (files : List FileOverlay) (overlays : PathsAndTexts) (passes : Bool) → applied files s.overlays ≡ Ok overlays → passes_limit s.snapshot overlays ≡ passes → TakesAllOrNone s files (overlays_turn s id overlays)
overlays_turn-takes s id files overlays true found is = rw is (inr (record { code = _; refused = refl; kept = refl }))
overlays_turn-takes s id files overlays false found is = rw is (inl (record { done = refl; overlays = found; within = is; rest = refl }))

updated_turn-takes : (s : State) (id : List ℕ) (files : List FileOverlay) (found : Result PathsAndTexts OverlayRefusal) → applied files s.overlays ≡ found → TakesAllOrNone s files (updated_turn s id found)
updated_turn-takes s id files (Ok overlays) is = overlays_turn-takes s id files overlays (passes_limit s.snapshot overlays) is refl
updated_turn-takes s id files (Err (BadChange path)) is = inr (record { code = _; refused = refl; kept = refl })
updated_turn-takes s id files (Err (TooLong path bytes)) is = inr (record { code = _; refused = refl; kept = refl })
updated_turn-takes s id files (Err Memory) is = inr (record { code = _; refused = refl; kept = refl })

pub turn-takes : (s : State) (bytes : List ℕ) (told : Option Stored) (mark : Bool) (id : List ℕ) (files : List FileOverlay) (t : Turn) → answer bytes ≡ Ok (record { id = id; request = Update files }) → IsTurn told mark s (line bytes) (Some t) → TakesAllOrNone s files t
turn-takes s bytes told mark id files t is h =
    let turn = subst (λ (found : Result Asked RequestRefusal). IsRequestTurn told mark s found t) is (request_turn told mark s (is_skipped bytes) (answer bytes) t h) in
    subst (TakesAllOrNone s files) (sym turn) (updated_turn-takes s id files (applied files s.overlays) refl)
