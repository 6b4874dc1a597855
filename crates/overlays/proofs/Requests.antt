-- Edits and files one after another: one more, the first that is refused, and the end.
use Rattle.std.proofs.Common.{◌≡◌, ◌≢◌, ℕ, ◌+◌, ◌<◌, ◌≤◌, List, [], ◌∷◌, length, get_or, drop, ◌++◌, Option, Some, None, Result, Ok, Err, refl, sym, ap, ◌∙◌, ◌⊎◌, inl, inr}
use Rattle.std.specs.List.{All}
use Rattle.std.specs.Prelude.{IfOk}
use Rattle.std.proofs.lemmas.Bool.{le-leb}
use Rattle.std.proofs.lemmas.List.{at_drop_more, at_drop_all}
use Rattle.std.proofs.lemmas.List.Elements.{All-head, All-tail}
use Rattle.std.proofs.lemmas.Result.{IfOk-weaker}
use Rattle.dart_text.specs.Edits.{edited, max_text}
use Rattle.dart_text.specs.declared.edit.EditRefusal.{EditRefusal}
use Rattle.dart_text.specs.declared.edit.EditRefusal.TheVariants as edit_refusal
use Rattle.proto_json.specs.declared.overlay.FileOverlay.{FileOverlay}
use Rattle.proto_json.specs.declared.overlay.Overlay.{Overlay}
use Rattle.proto_json.specs.declared.overlay.Overlay.TheVariants.{Add, Change, Remove}
use Rattle.proto_json.specs.declared.overlay.OverlayEdit.{OverlayEdit}
use Rattle.overlays.specs.Tables.{PathsAndTexts, IsInOrder, text_in, with_text}
use Rattle.overlays.specs.Applied.{go_on, edited_by, changed, text_after, apply_on, applied}
use Rattle.overlays.specs.OneFile.{one_applied, GivesOneFile}
use Rattle.overlays.specs.Results.{IsUnlessMemory, IsEditedUnlessMemory}
use Rattle.overlays.specs.declared.refusal.OverlayRefusal.{OverlayRefusal}
use Rattle.overlays.specs.declared.refusal.OverlayRefusal.TheVariants.{Memory}
use Rattle.overlays.proofs.LookUps.{text_in-with_other, order-with}

-- a text after an edit
abbrev pub after_edit : List ℕ → OverlayEdit → Result (List ℕ) EditRefusal
after_edit text edit = edited text edit.offset edit.length edit.replacement

module _ (edits : List OverlayEdit) (i : ℕ) (text : List ℕ) where
  -- the next edit, and those behind it
  next_edit : (edit : OverlayEdit) → i < length edits → edit ≡ get_or edits i edit → edited_by (drop i edits) text ≡ go_on (edited_by (drop (i + 1) edits)) (after_edit text edit)
  unfolding edited_by
  next_edit edit within is =
      at_drop_more (λ (rest : List OverlayEdit). edited_by rest text) edits i edit within
      ∙ ap (λ (e : OverlayEdit). go_on (edited_by (drop (i + 1) edits)) (after_edit text e)) (sym is)

  -- an edit is done, and those behind it are left
  pub one_more_edit : (edit : OverlayEdit) (after : List ℕ) → i < length edits → edit ≡ get_or edits i edit → after_edit text edit ≡ Ok after → edited_by (drop i edits) text ≡ edited_by (drop (i + 1) edits) after
  one_more_edit edit after within is done = next_edit edit within is ∙ ap (go_on (edited_by (drop (i + 1) edits))) done

  -- a refused edit refuses all
  pub refused_edit : (edit : OverlayEdit) (refusal : EditRefusal) (answer : Result (List ℕ) EditRefusal) → i < length edits → edit ≡ get_or edits i edit → answer ≡ edited_by (drop i edits) text → (refusal ≡ edit_refusal.Memory) ⊎ (after_edit text edit ≡ Err refusal) → IsEditedUnlessMemory (Err refusal) answer
  refused_edit edit refusal answer within is all (inl memory) = inl (ap Err memory)
  refused_edit edit refusal answer within is all (inr refused) =
      inr (sym (all ∙ (next_edit edit within is ∙ ap (go_on (edited_by (drop (i + 1) edits))) refused)))

  -- no edit is left
  pub no_more_edits : length edits ≤ i → edited_by (drop i edits) text ≡ Ok text
  unfolding edited_by
  no_more_edits all = at_drop_all (λ (rest : List OverlayEdit). edited_by rest text) edits i all

-- the overlays after more files, where those before them weren't refused
abbrev pub carry_on : (PathsAndTexts → Result PathsAndTexts OverlayRefusal) → Result PathsAndTexts OverlayRefusal → Result PathsAndTexts OverlayRefusal
carry_on more (Ok table) = more table
carry_on more (Err refusal) = Err refusal

-- a file and those behind it: first the file alone
pub one_file_first : (file : FileOverlay) (files : List FileOverlay) (table : PathsAndTexts) → applied (file ∷ files) table ≡ carry_on (applied files) (applied (file ∷ []) table)
unfolding applied
one_file_first file files table =
    elim (text_after file.path file.overlay (text_in file.path table)) as (λ r. apply_on (applied files) file.path table r ≡ carry_on (applied files) (apply_on (applied []) file.path table r)) [
      | Ok text ↦ refl
      | Err refusal ↦ refl
    ]

-- a list of files, and then another
pub files-append : (files others : List FileOverlay) (table : PathsAndTexts) → applied (files ++ others) table ≡ carry_on (applied others) (applied files table)
unfolding applied
files-append [] others table = refl
files-append (file ∷ files) others table =
    elim (text_after file.path file.overlay (text_in file.path table)) as (λ r. apply_on (applied (files ++ others)) file.path table r ≡ carry_on (applied others) (apply_on (applied files) file.path table r)) [
      | Ok text ↦ files-append files others (with_text file.path text table)
      | Err refusal ↦ refl
    ]

module _ (files : List FileOverlay) (i : ℕ) (table : PathsAndTexts) where
  -- the next file, and those behind it
  next_file : (file : FileOverlay) → i < length files → file ≡ get_or files i file → applied (drop i files) table ≡ carry_on (applied (drop (i + 1) files)) (applied (file ∷ []) table)
  next_file file within is =
      at_drop_more (λ (rest : List FileOverlay). applied rest table) files i file within
      ∙ (ap (λ (f : FileOverlay). applied (f ∷ drop (i + 1) files) table) (sym is) ∙ one_file_first file (drop (i + 1) files) table)

  -- a file is applied, and those behind it are left
  pub one_more_file : (file : FileOverlay) (after : PathsAndTexts) → i < length files → file ≡ get_or files i file → applied (file ∷ []) table ≡ Ok after → applied (drop i files) table ≡ applied (drop (i + 1) files) after
  one_more_file file after within is done = next_file file within is ∙ ap (carry_on (applied (drop (i + 1) files))) done

  -- a refused file refuses the request
  pub refused_file : (file : FileOverlay) (refusal : OverlayRefusal) (answer : Result PathsAndTexts OverlayRefusal) → i < length files → file ≡ get_or files i file → answer ≡ applied (drop i files) table → (refusal ≡ Memory) ⊎ (applied (file ∷ []) table ≡ Err refusal) → (refusal ≡ Memory) ⊎ (answer ≡ Err refusal)
  refused_file file refusal answer within is all (inl memory) = inl memory
  refused_file file refusal answer within is all (inr refused) =
      inr (all ∙ (next_file file within is ∙ ap (carry_on (applied (drop (i + 1) files))) refused))

  -- no file is left
  pub no_more_files : length files ≤ i → applied (drop i files) table ≡ Ok table
  unfolding applied
  no_more_files all = at_drop_all (λ (rest : List FileOverlay). applied rest table) files i all

module _ (file : FileOverlay) (table : PathsAndTexts) (result : Result (Option (List ℕ)) OverlayRefusal) (told : IsUnlessMemory result (text_after file.path file.overlay (text_in file.path table))) where
  -- a file that isn't refused has the text that its overlay gives it
  pub file_applied : (text : Option (List ℕ)) → result ≡ Ok text → applied (file ∷ []) table ≡ Ok (with_text file.path text table)
  unfolding applied
  file_applied text is = elim told [
    | inl memory ↦ cc
    | inr answer ↦ ap (apply_on (applied []) file.path table) (sym answer ∙ is)
  ]

  -- a file whose text is refused
  pub file_refused : (refusal : OverlayRefusal) → result ≡ Err refusal → (refusal ≡ Memory) ⊎ (applied (file ∷ []) table ≡ Err refusal)
  unfolding applied
  file_refused refusal is = elim told [
    | inl memory ↦ inl (cc)
    | inr answer ↦ inr (ap (apply_on (applied []) file.path table) (sym answer ∙ is))
  ]

-- edits and then others
pub edits-append : (edits others : List OverlayEdit) (text : List ℕ) → edited_by (edits ++ others) text ≡ go_on (edited_by others) (edited_by edits text)
unfolding edited_by
edits-append [] others text = refl
edits-append (edit ∷ edits) others text =
    elim (after_edit text edit) as (λ r. go_on (edited_by (edits ++ others)) r ≡ go_on (edited_by others) (go_on (edited_by edits) r)) [
      | Ok after ↦ edits-append edits others after
      | Err refusal ↦ refl
    ]

-- an applied request leaves the texts in order
pub order-applied : (files : List FileOverlay) (table : PathsAndTexts) → IsInOrder table → IfOk (applied files table) (λ after. IsInOrder after)
unfolding applied
order-applied [] table order = order
order-applied (file ∷ files) table order =
    elim (text_after file.path file.overlay (text_in file.path table)) as (λ r. IfOk (apply_on (applied files) file.path table r) (λ after. IsInOrder after)) [
      | Ok text ↦ order-applied files (with_text file.path text table) (order-with file.path text table order)
      | Err refusal ↦ tt
    ]

-- a path that no file of the request has keeps its text
pub others-applied : (other : List ℕ) (files : List FileOverlay) (table : PathsAndTexts) → All (λ file. other ≢ file.path) files → IfOk (applied files table) (λ after. text_in other after ≡ text_in other table)
unfolding applied
others-applied other [] table all = refl
others-applied other (file ∷ files) table all =
    let is_other = λ (f : FileOverlay). other ≢ f.path in
    let kept = λ (text : Option (List ℕ)). text_in-with_other file.path text other (All-head is_other file files all) table in
    let more = λ (text : Option (List ℕ)). others-applied other files (with_text file.path text table) (All-tail is_other file files all) in
    elim (text_after file.path file.overlay (text_in file.path table)) as (λ r. IfOk (apply_on (applied files) file.path table r) (λ after. text_in other after ≡ text_in other table)) [
      | Ok text ↦ IfOk-weaker (applied files (with_text file.path text table)) _ _ (λ after same. same ∙ kept text) (more text)
      | Err refusal ↦ tt
    ]

-- the text of an overlay, by what it does
text_added : (path content : List ℕ) (old : Option (List ℕ)) → length content ≤ max_text → text_after path (Add content) old ≡ Ok (Some content)
unfolding text_after
text_added path content old short = rw (le-leb (length content) max_text short) refl

text_changed : (path old text : List ℕ) (edits : List OverlayEdit) → edited_by edits old ≡ Ok text → text_after path (Change edits) (Some old) ≡ Ok (Some text)
unfolding text_after
text_changed path old text edits is = ap (changed path) is

text_removed : (path : List ℕ) (old : Option (List ℕ)) → text_after path Remove old ≡ Ok None
unfolding text_after
text_removed path old = refl

-- a request of one file applies the text that its overlay makes, or is refused as this is
one_of : (file : FileOverlay) (table : PathsAndTexts) (answer : Result (Option (List ℕ)) OverlayRefusal) → text_after file.path file.overlay (text_in file.path table) ≡ answer → one_applied file table ≡ apply_on (λ after. Ok after) file.path table answer
unfolding applied
one_of file table (Ok text) is = ap (apply_on (applied []) file.path table) is
one_of file table (Err refusal) is = ap (apply_on (applied []) file.path table) is

pub one_file : (file : FileOverlay) (table : PathsAndTexts) → GivesOneFile file table
one_file file table = record {
  added = λ content is short.
      one_of file table (Ok (Some content)) (ap (λ (o : Overlay). text_after file.path o (text_in file.path table)) is ∙ text_added file.path content (text_in file.path table) short);
  changed = λ edits old text is there done.
      one_of file table (Ok (Some text))
      (ap (λ (o : Overlay). text_after file.path o (text_in file.path table)) is
      ∙ (ap (text_after file.path (Change edits)) there ∙ text_changed file.path old text edits done));
  removed = λ is.
      one_of file table (Ok None) (ap (λ (o : Overlay). text_after file.path o (text_in file.path table)) is ∙ text_removed file.path (text_in file.path table));
  refused = λ refusal is. one_of file table (Err refusal) is;
}

-- no files, no edits and one edit
pub no_files : (table : PathsAndTexts) → applied [] table ≡ Ok table
unfolding applied
no_files table = refl

pub no_edits : (text : List ℕ) → edited_by [] text ≡ Ok text
unfolding edited_by
no_edits text = refl

pub one_edit : (text : List ℕ) (edit : OverlayEdit) → edited_by (edit ∷ []) text ≡ after_edit text edit
unfolding edited_by
one_edit text edit = elim (after_edit text edit) as (λ r. go_on (edited_by []) r ≡ r) [ Ok after ↦ refl | Err refusal ↦ refl ]

-- what more edits or files make of an answer that is known
pub edits_go_on : (edits others : List OverlayEdit) (text after : List ℕ) → edited_by edits text ≡ Ok after → edited_by (edits ++ others) text ≡ edited_by others after
edits_go_on edits others text after is = edits-append edits others text ∙ ap (go_on (edited_by others)) is

pub edits_stop : (edits others : List OverlayEdit) (text : List ℕ) (refusal : EditRefusal) → edited_by edits text ≡ Err refusal → edited_by (edits ++ others) text ≡ Err refusal
edits_stop edits others text refusal is = edits-append edits others text ∙ ap (go_on (edited_by others)) is

pub files_go_on : (files others : List FileOverlay) (table after : PathsAndTexts) → applied files table ≡ Ok after → applied (files ++ others) table ≡ applied others after
files_go_on files others table after is = files-append files others table ∙ ap (carry_on (applied others)) is

pub files_stop : (files others : List FileOverlay) (table : PathsAndTexts) (refusal : OverlayRefusal) → applied files table ≡ Err refusal → applied (files ++ others) table ≡ Err refusal
files_stop files others table refusal is = files-append files others table ∙ ap (carry_on (applied others)) is
