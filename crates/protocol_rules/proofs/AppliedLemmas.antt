-- Want of memory is no answer of the definitions of a request and of an update.
use Rattle.std.proofs.Common.{◌≢◌, ℕ, ◌+◌, List, [], ◌∷◌, Bool, true, false, if◌then◌else◌, length, nat_le, nat_lt, Option, None, Some, Result, Ok, Err, refl}
use Rattle.dart_text.specs.Edits.{edited, replaced, max_text}
use Rattle.dart_text.specs.Units.{units_of, splits_pair}
use Rattle.dart_text.specs.declared.edit.EditRefusal.{EditRefusal}
use Rattle.dart_text.specs.declared.edit.EditRefusal.TheVariants as edit_refusal
use Rattle.proto_json.specs.Parameters.{has_paths, request_of}
use Rattle.proto_json.specs.Requests.{Head, head_by, method_named, answer, answer_to, answer_to_head, answer_to_method, answer_to_params, answer_to_request}
use Rattle.proto_json.specs.declared.code.Code.TheVariants.{InvalidFilePathFormat}
use Rattle.proto_json.specs.declared.request.Asked.{Asked}
use Rattle.proto_json.specs.declared.request.Request.{Request}
use Rattle.proto_json.specs.declared.request.RequestRefusal.{RequestRefusal}
use Rattle.proto_json.specs.declared.request.RequestRefusal.TheVariants as request_refusal
use Rattle.proto_json.specs.declared.overlay.FileOverlay.{FileOverlay}
use Rattle.proto_json.specs.declared.overlay.Overlay.{Overlay}
use Rattle.proto_json.specs.declared.overlay.Overlay.TheVariants.{Add, Change, Remove}
use Rattle.proto_json.specs.declared.overlay.OverlayEdit.{OverlayEdit}
use Rattle.overlays.specs.Applied.{go_on, edited_by, changed, text_after, apply_on, applied}
use Rattle.overlays.specs.Tables.{PathsAndTexts, text_in, with_text}
use Rattle.overlays.specs.declared.refusal.OverlayRefusal.{OverlayRefusal}
use Rattle.overlays.specs.declared.refusal.OverlayRefusal.TheVariants.{Memory}

-- what holds of both choices holds of the one that is taken
of_choice : {T : Type 0} (P : T → Type 0) (b : Bool) (x y : T) → P x → P y → P (if b then x else y)
of_choice P true x y h k = h
of_choice P false x y h k = k

-- an edit that isn't refused for want of memory
abbrev NoEditMemory : Result (List ℕ) EditRefusal → Type 0
NoEditMemory r = r ≢ Err edit_refusal.Memory

-- nor the overlay of a file
abbrev NoMemory : {T : Type 0} → Result T OverlayRefusal → Type 0
NoMemory r = r ≢ Err Memory

edited-no_memory : (text : List ℕ) (offset count : ℕ) (with : List ℕ) → NoEditMemory (edited text offset count with)
unfolding edited
edited-no_memory text offset count with =
    of_choice NoEditMemory (nat_lt (length (units_of text)) (offset + count)) _ _ (λ is. cc)
    (of_choice NoEditMemory (splits_pair offset (units_of text)) _ _ (λ is. cc)
    (of_choice NoEditMemory (splits_pair (offset + count) (units_of text)) _ _ (λ is. cc)
    (of_choice NoEditMemory (nat_le (length (replaced text offset count with)) max_text) _ _ (λ is. cc) (λ is. cc))))

go_on-no_memory : (more : List ℕ → Result (List ℕ) EditRefusal) (r : Result (List ℕ) EditRefusal) → ((text : List ℕ) → NoEditMemory (more text)) → NoEditMemory r → NoEditMemory (go_on more r)
go_on-no_memory more (Ok text) h k = h text
go_on-no_memory more (Err refusal) h k = k

edited_by-no_memory : (edits : List OverlayEdit) (text : List ℕ) → NoEditMemory (edited_by edits text)
unfolding edited_by
edited_by-no_memory [] text = λ is. cc
edited_by-no_memory (edit ∷ edits) text = go_on-no_memory (edited_by edits) (edited text edit.offset edit.length edit.replacement) (edited_by-no_memory edits) (edited-no_memory text edit.offset edit.length edit.replacement)

changed-no_memory : (path : List ℕ) (r : Result (List ℕ) EditRefusal) → NoEditMemory r → NoMemory (changed path r)
changed-no_memory path (Ok text) h = λ is. cc
changed-no_memory path (Err (edit_refusal.OutOfRange length)) h = λ is. cc
changed-no_memory path (Err (edit_refusal.SplitsPair at)) h = λ is. cc
changed-no_memory path (Err (edit_refusal.TooLong bytes)) h = λ is. cc
changed-no_memory path (Err edit_refusal.Memory) h = λ is. h refl

text_after-no_memory : (path : List ℕ) (overlay : Overlay) (old : Option (List ℕ)) → NoMemory (text_after path overlay old)
unfolding text_after
text_after-no_memory path (Add content) old = of_choice (NoMemory {T = Option (List ℕ)}) (nat_le (length content) max_text) _ _ (λ is. cc) (λ is. cc)
text_after-no_memory path (Change edits) None = λ is. cc
text_after-no_memory path (Change edits) (Some text) = changed-no_memory path (edited_by edits text) (edited_by-no_memory edits text)
text_after-no_memory path Remove old = λ is. cc

apply_on-no_memory : (more : PathsAndTexts → Result PathsAndTexts OverlayRefusal) (path : List ℕ) (table : PathsAndTexts) (r : Result (Option (List ℕ)) OverlayRefusal) → ((table : PathsAndTexts) → NoMemory (more table)) → NoMemory r → NoMemory (apply_on more path table r)
apply_on-no_memory more path table (Ok text) h k = h (with_text path text table)
apply_on-no_memory more path table (Err refusal) h k = λ is. k cc

-- the files of a request, applied one after another
pub applied-no_memory : (files : List FileOverlay) (table : PathsAndTexts) → NoMemory (applied files table)
unfolding applied
applied-no_memory [] table = λ is. cc
applied-no_memory (file ∷ files) table = apply_on-no_memory (applied files) file.path table (text_after file.path file.overlay (text_in file.path table)) (applied-no_memory files) (text_after-no_memory file.path file.overlay (text_in file.path table))

-- nor the reading of a line
abbrev NoRequestMemory : Result Asked RequestRefusal → Type 0
NoRequestMemory r = r ≢ Err request_refusal.Memory

-- by the format of its paths
answer_to_request-no_memory : (id : List ℕ) (request : Request) → NoRequestMemory (answer_to_request id request)
answer_to_request-no_memory id request =
    elim (has_paths request) as (λ has. NoRequestMemory (if has then Ok (record { id = id; request = request }) else Err (request_refusal.Refused id InvalidFilePathFormat)))
    [ true ↦ (λ is. cc) | false ↦ (λ is. cc) ]

-- by its parameters
answer_to_params-no_memory : (id : List ℕ) (request : Option Request) → NoRequestMemory (answer_to_params id request)
answer_to_params-no_memory id None = λ is. cc
answer_to_params-no_memory id (Some request) = answer_to_request-no_memory id request

-- by its method
answer_to_head-no_memory : (h : Head) → NoRequestMemory (answer_to_head h)
answer_to_head-no_memory h =
    elim (method_named h.method) as (λ m. NoRequestMemory (answer_to_method h.id m h.params))
    [ None ↦ (λ is. cc) | Some m ↦ answer_to_params-no_memory h.id (request_of m h.params) ]

-- where it is an object
answer_to-no_memory : (head : Option Head) → NoRequestMemory (answer_to head)
answer_to-no_memory None = λ is. cc
answer_to-no_memory (Some h) = answer_to_head-no_memory h

-- any line
pub answer-no_memory : (bytes : List ℕ) → NoRequestMemory (answer bytes)
answer-no_memory bytes = answer_to-no_memory (head_by bytes)
