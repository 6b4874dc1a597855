-- What a call that changes overlays answers.
use Rattle.std.specs.Prelude.{◌≡◌, ◌⊎◌, ℕ, List, ⊤, Option, Result, Ok, Err}
use Rattle.dart_text.specs.declared.edit.EditRefusal.{EditRefusal}
use Rattle.dart_text.specs.declared.edit.EditRefusal.TheVariants as edit_refusal
use Rattle.overlays.specs.Tables.{PathsAndTexts}
use Rattle.overlays.specs.declared.refusal.OverlayRefusal.{OverlayRefusal}
use Rattle.overlays.specs.declared.refusal.OverlayRefusal.TheVariants.{Memory}

-- There are the overlays `new` in the place of `old`: those of the answer, or, where the answer or want of memory refuses, the old ones.
abbrev pub Applies : Result ⊤ OverlayRefusal → (old new : PathsAndTexts) → Result PathsAndTexts OverlayRefusal → Type 0
Applies (Ok done) old new answer = answer ≡ Ok new
Applies (Err refusal) old new answer = (new ≡ old) × ((refusal ≡ Memory) ⊎ (answer ≡ Err refusal))

-- the result of a file is the answer, unless memory was wanting
abbrev pub IsUnlessMemory : Result (Option (List ℕ)) OverlayRefusal → Result (Option (List ℕ)) OverlayRefusal → Type 0
IsUnlessMemory result answer = (result ≡ Err Memory) ⊎ (result ≡ answer)

-- the same of the result of edits
abbrev pub IsEditedUnlessMemory : Result (List ℕ) EditRefusal → Result (List ℕ) EditRefusal → Type 0
IsEditedUnlessMemory result answer = (result ≡ Err edit_refusal.Memory) ⊎ (result ≡ answer)
