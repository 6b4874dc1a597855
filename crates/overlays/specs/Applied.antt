-- What the files of a request make of the overlays.
use Rattle.std.specs.Prelude.{ℕ, List, [], ◌∷◌, length, nat_le, if◌then◌else◌, Option, None, Some, Result, Ok, Err}
use Rattle.dart_text.specs.Edits.{edited, max_text}
use Rattle.dart_text.specs.declared.edit.EditRefusal.{EditRefusal}
use Rattle.dart_text.specs.declared.edit.EditRefusal.TheVariants as edit_refusal
use Rattle.proto_json.specs.declared.overlay.FileOverlay.{FileOverlay}
use Rattle.proto_json.specs.declared.overlay.Overlay.{Overlay}
use Rattle.proto_json.specs.declared.overlay.Overlay.TheVariants.{Add, Change, Remove}
use Rattle.proto_json.specs.declared.overlay.OverlayEdit.{OverlayEdit}
use Rattle.overlays.specs.Tables.{PathsAndTexts, text_in, with_text}
use Rattle.overlays.specs.declared.refusal.OverlayRefusal.{OverlayRefusal}
use Rattle.overlays.specs.declared.refusal.OverlayRefusal.TheVariants.{BadChange, TooLong, Memory}

-- a text after one edit, and after those behind it
abbrev pub go_on : (List ℕ → Result (List ℕ) EditRefusal) → Result (List ℕ) EditRefusal → Result (List ℕ) EditRefusal
go_on more (Ok text) = more text
go_on more (Err refusal) = Err refusal

-- a text after edits, each of which applies to the text that the one before it leaves; the first refusal is that of all
unfoldable pub edited_by : List OverlayEdit → List ℕ → Result (List ℕ) EditRefusal
edited_by [] text = Ok text
edited_by (edit ∷ edits) text = go_on (edited_by edits) (edited text edit.offset edit.length edit.replacement)

-- the text of a changed file: an edit that doesn't fit the text is a bad change
abbrev pub changed : List ℕ → Result (List ℕ) EditRefusal → Result (Option (List ℕ)) OverlayRefusal
changed path (Ok text) = Ok (Some text)
changed path (Err (edit_refusal.OutOfRange length)) = Err (BadChange path)
changed path (Err (edit_refusal.SplitsPair at)) = Err (BadChange path)
changed path (Err (edit_refusal.TooLong bytes)) = Err (TooLong path bytes)
changed path (Err edit_refusal.Memory) = Err Memory

-- The text that a file has after an overlay, by the one that it had: an added text has at most so many bytes as a file may have, a change is of a text that is there, and a removed text may be none.
unfoldable pub text_after : List ℕ → Overlay → Option (List ℕ) → Result (Option (List ℕ)) OverlayRefusal
text_after path (Add content) old = if nat_le (length content) max_text then Ok (Some content) else Err (TooLong path (length content))
text_after path (Change edits) None = Err (BadChange path)
text_after path (Change edits) (Some text) = changed path (edited_by edits text)
text_after path Remove old = Ok None

-- the overlays after one file, and after those behind it
abbrev pub apply_on : (PathsAndTexts → Result PathsAndTexts OverlayRefusal) → (path : List ℕ) → PathsAndTexts → Result (Option (List ℕ)) OverlayRefusal → Result PathsAndTexts OverlayRefusal
apply_on more path table (Ok text) = more (with_text path text table)
apply_on more path table (Err refusal) = Err refusal

-- The overlays after the files of a request, one after another; the first refusal is that of the request.
unfoldable pub applied : List FileOverlay → PathsAndTexts → Result PathsAndTexts OverlayRefusal
applied [] table = Ok table
applied (file ∷ files) table = apply_on (applied files) file.path table (text_after file.path file.overlay (text_in file.path table))
