-- The bytes that an edit replaces.
use Rattle.std.specs.Prelude.{◌≡◌, ℕ, ◌≤◌, List, IsUtf8, IsCharBoundary}
use Rattle.std.specs.List.{replace_range}
use Rattle.std.specs.declared.ops.Range.{Range}
use Rattle.dart_text.specs.Edits.{edited, short_edit}

-- The bytes from `part.start` up to `part.end` are those of the units that the edit replaces: whatever text is put in their place, that is the edited text, unless it is too long.
pub record IsReplacedBy (text : List ℕ) (offset count : ℕ) (part : Range ℕ) : Type 0 where
  pub in_order : part.start ≤ part.end
  pub starts : IsCharBoundary text part.start
  pub ends : IsCharBoundary text part.end
  pub puts : (with : List ℕ) → IsUtf8 with → edited text offset count with ≡ short_edit (replace_range text part.start part.end with)
