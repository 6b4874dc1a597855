-- What a call on a text answers.
use Rattle.std.specs.Prelude.{◌≡◌, ◌⊎◌, List, ℕ, ⊤, Result, Ok, Err}
use Rattle.dart_text.specs.declared.edit.EditRefusal.{EditRefusal}
use Rattle.dart_text.specs.declared.edit.EditRefusal.TheVariants as edit_refusal
use Rattle.dart_text.specs.declared.text.TextRefusal.{TextRefusal}
use Rattle.dart_text.specs.declared.text.TextRefusal.TheVariants as text_refusal

-- the result is the answer, unless memory was wanting
abbrev pub IsUnlessMemory : Result (List ℕ) TextRefusal → Result (List ℕ) TextRefusal → Type 0
IsUnlessMemory result answer = (result ≡ Err text_refusal.Memory) ⊎ (result ≡ answer)

-- After an edit of the text `old` there is the text `new`: the edited one, or, refused by the edit or for want of memory, the old one.
abbrev pub Edits : Result ⊤ EditRefusal → (old new : List ℕ) → Result (List ℕ) EditRefusal → Type 0
Edits (Ok done) old new answer = answer ≡ Ok new
Edits (Err refusal) old new answer = (new ≡ old) × ((refusal ≡ edit_refusal.Memory) ⊎ (answer ≡ Err refusal))
