-- There is one turn at most.
use Rattle.std.proofs.Common.{◌≡◌, ℕ, List, Bool, true, false, not, ◌&&◌, Option, None, Some, Result, Ok, Err, refl, sym, ap, ◌∙◌}
use Rattle.std.proofs.lemmas.Bool.{true≢false, false≢true}
use Rattle.fault_io.specs.Stored.{Stored}
use Rattle.serve_loop.specs.Event.{Event, line, too_long}
use Rattle.proto_json.specs.Requests.{answer}
use Rattle.proto_json.specs.declared.request.Asked.{Asked}
use Rattle.proto_json.specs.declared.request.Request.{Request}
use Rattle.proto_json.specs.declared.request.Request.TheVariants.{SetRoots, Reanalyze, Update, GetErrors, GetWork}
use Rattle.proto_json.specs.declared.request.RequestRefusal.{RequestRefusal}
use Rattle.proto_json.specs.declared.request.RequestRefusal.TheVariants.{Refused, Memory}
use Rattle.judgement.specs.declared.fault.Fault.{Fault}
use Rattle.load_files.specs.Tables.{Table}
use Rattle.load_files.specs.declared.contents.FileContents.{FileContents}
use Rattle.check_files.specs.Settled.{diagnostics_settled}
use Rattle.protocol_rules.specs.Files.{AreDiagnosticsBy, current, files_of, is_analyzed}
use Rattle.load_files.specs.declared.refusal.LoadRefusal.{LoadRefusal}
use Rattle.load_files.specs.declared.roots.Roots.{Roots}
use Rattle.protocol_rules.specs.Answers.{uses_store, request_uses_store, reads_store}
use Rattle.protocol_rules.specs.Reading.{IsReading}
use Rattle.protocol_rules.specs.Skipped.{is_skipped}
use Rattle.protocol_rules.specs.State.{State}
use Rattle.protocol_rules.specs.Turns.{Turn, IsTurn, IsLineTurn, IsRequestTurn, IsAskedTurn, IsErrorsTurnIf, IsReadTurn, errors_turn, read_turn, with_paths}

-- the diagnostics of a file are settled
faults-settled : (s : State) (path : List ℕ) (contents : Option FileContents) (faults faults' : List Fault) → AreDiagnosticsBy s path contents faults → AreDiagnosticsBy s path contents faults' → faults ≡ faults'
faults-settled s path None faults faults' h h' = h ∙ sym h'
faults-settled s path (Some contents) faults faults' h h' = diagnostics_settled s.roots.packages (files_of s) path contents faults faults' h h'

-- and so are its errors
errors-settled : (s : State) (id file : List ℕ) (analyzed : Bool) (a b : Turn) → IsErrorsTurnIf analyzed s id file a → IsErrorsTurnIf analyzed s id file b → a ≡ b
errors-settled s id file true a b h h' =
    h.turn ∙ ap (λ (faults : List Fault). errors_turn s id file faults) (faults-settled s file (current s file) h.faults h'.faults h.diagnostics h'.diagnostics) ∙ sym h'.turn
errors-settled s id file false a b h h' = h ∙ sym h'

-- where the store isn't asked, whatever it tells
module _ (told told' : Option Stored) (mark mark' : Bool) (s : State) where
  asked-settled : (id : List ℕ) (request : Request) (a b : Turn) → reads_store request ≡ false → IsAskedTurn told mark s id request a → IsAskedTurn told' mark' s id request b → a ≡ b
  asked-settled id (SetRoots included excluded) a b unasked h h' = absurd (true≢false unasked)
  asked-settled id Reanalyze a b unasked h h' = absurd (true≢false unasked)
  asked-settled id (Update files) a b unasked h h' = h ∙ sym h'
  asked-settled id (GetErrors file) a b unasked h h' = errors-settled s id file (is_analyzed s file) a b h h'
  asked-settled id GetWork a b unasked h h' = h ∙ sym h'

  request-settled : (request : Result Asked RequestRefusal) (a b : Turn) → request_uses_store request ≡ false → IsRequestTurn told mark s request a → IsRequestTurn told' mark' s request b → a ≡ b
  request-settled (Ok asked) a b unasked h h' = asked-settled asked.id asked.request a b unasked h h'
  request-settled (Err (Refused id code)) a b unasked h h' = h ∙ sym h'
  request-settled (Err Memory) a b unasked h h' = h ∙ sym h'

  line-settled : (skipped : Bool) (request : Result Asked RequestRefusal) (a b : Option Turn) → (not skipped && request_uses_store request) ≡ false → IsLineTurn told mark s skipped request a → IsLineTurn told' mark' s skipped request b → a ≡ b
  line-settled true request None None unasked h h' = refl
  line-settled true request None (Some b) unasked h h' = absurd h'
  line-settled true request (Some a) b unasked h h' = absurd h
  line-settled false request None b unasked h h' = absurd h
  line-settled false request (Some a) None unasked h h' = absurd h'
  line-settled false request (Some a) (Some b) unasked h h' = ap (λ (t : Turn). Some t) (request-settled request a b unasked h h')

  pub turn-settled : (event : Event) (a b : Option Turn) → uses_store event ≡ false → IsTurn told mark s event a → IsTurn told' mark' s event b → a ≡ b
  turn-settled too_long a b unasked h h' = h ∙ sym h'
  turn-settled (line bytes) a b unasked h h' = line-settled (is_skipped bytes) (answer bytes) a b unasked h h'

-- where the store tells its files
module _ (stored : Stored) (s : State) where
  found-settled : (mark : Bool) (roots : Roots) (found found' : Result Table LoadRefusal) → IsReading (Some stored) mark roots s.overlays found → IsReading (Some stored) mark roots s.overlays found' → found ≡ found'
  found-settled true roots found found' h h' = h.failed refl ∙ sym (h'.failed refl)
  found-settled false roots found found' h h' =
      h.exact (λ is. false≢true (h.marked is)) stored refl ∙ sym (h'.exact (λ is. false≢true (h'.marked is)) stored refl)

  read-told : (mark : Bool) (id : List ℕ) (roots : Roots) (a b : Turn) → IsReadTurn (Some stored) mark s id roots a → IsReadTurn (Some stored) mark s id roots b → a ≡ b
  read-told mark id roots a b h h' =
      h.turn ∙ ap (λ (found : Result Table LoadRefusal). read_turn s id roots found) (found-settled mark roots h.found h'.found h.reading h'.reading) ∙ sym h'.turn

  asked-told : (mark : Bool) (id : List ℕ) (request : Request) (a b : Turn) → IsAskedTurn (Some stored) mark s id request a → IsAskedTurn (Some stored) mark s id request b → a ≡ b
  asked-told mark id (SetRoots included excluded) a b h h' = read-told mark id (with_paths s.roots included excluded) a b h h'
  asked-told mark id Reanalyze a b h h' = read-told mark id s.roots a b h h'
  asked-told mark id (Update files) a b h h' = h ∙ sym h'
  asked-told mark id (GetErrors file) a b h h' = errors-settled s id file (is_analyzed s file) a b h h'
  asked-told mark id GetWork a b h h' = h ∙ sym h'

  request-told : (mark : Bool) (request : Result Asked RequestRefusal) (a b : Turn) → IsRequestTurn (Some stored) mark s request a → IsRequestTurn (Some stored) mark s request b → a ≡ b
  request-told mark (Ok asked) a b h h' = asked-told mark asked.id asked.request a b h h'
  request-told mark (Err (Refused id code)) a b h h' = h ∙ sym h'
  request-told mark (Err Memory) a b h h' = h ∙ sym h'

  line-told : (mark : Bool) (skipped : Bool) (request : Result Asked RequestRefusal) (a b : Option Turn) → IsLineTurn (Some stored) mark s skipped request a → IsLineTurn (Some stored) mark s skipped request b → a ≡ b
  line-told mark true request None None h h' = refl
  line-told mark true request None (Some b) h h' = absurd h'
  line-told mark true request (Some a) b h h' = absurd h
  line-told mark false request None b h h' = absurd h
  line-told mark false request (Some a) None h h' = absurd h'
  line-told mark false request (Some a) (Some b) h h' = ap (λ (t : Turn). Some t) (request-told mark request a b h h')

  pub turn-told : (mark : Bool) (event : Event) (a b : Option Turn) → IsTurn (Some stored) mark s event a → IsTurn (Some stored) mark s event b → a ≡ b
  turn-told mark too_long a b h h' = h ∙ sym h'
  turn-told mark (line bytes) a b h h' = line-told mark (is_skipped bytes) (answer bytes) a b h h'
