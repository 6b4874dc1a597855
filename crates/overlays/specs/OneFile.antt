-- What a request of one file makes of the overlays.
use Rattle.std.specs.Prelude.{◌≡◌, ◌≤◌, ℕ, List, [], ◌∷◌, length, Some, Result, Ok, Err}
use Rattle.dart_text.specs.Edits.{max_text}
use Rattle.proto_json.specs.declared.overlay.FileOverlay.{FileOverlay}
use Rattle.proto_json.specs.declared.overlay.Overlay.TheVariants.{Add, Change, Remove}
use Rattle.proto_json.specs.declared.overlay.OverlayEdit.{OverlayEdit}
use Rattle.overlays.specs.Tables.{PathsAndTexts, text_in, put_text, drop_text}
use Rattle.overlays.specs.Applied.{edited_by, text_after, applied}
use Rattle.overlays.specs.declared.refusal.OverlayRefusal.{OverlayRefusal}

-- the overlays after a request of this file alone
abbrev pub one_applied : FileOverlay → PathsAndTexts → Result PathsAndTexts OverlayRefusal
one_applied file table = applied (file ∷ []) table

-- exactly the answers of such a request, by what it does with the file's text; it is refused as that text is
pub record GivesOneFile (file : FileOverlay) (table : PathsAndTexts) : Type 0 where
  pub added : (content : List ℕ) → file.overlay ≡ Add content → length content ≤ max_text → one_applied file table ≡ Ok (put_text file.path content table)
  pub changed : (edits : List OverlayEdit) (old text : List ℕ) → file.overlay ≡ Change edits → text_in file.path table ≡ Some old → edited_by edits old ≡ Ok text → one_applied file table ≡ Ok (put_text file.path text table)
  pub removed : file.overlay ≡ Remove → one_applied file table ≡ Ok (drop_text file.path table)
  pub refused : (refusal : OverlayRefusal) → text_after file.path file.overlay (text_in file.path table) ≡ Err refusal → one_applied file table ≡ Err refusal
