-- A text in pieces.
use Rattle.std.specs.Prelude.{◌≡◌, ◌⊎◌, ℕ, ◌+◌, ◌-◌, ◌≤◌, List, ◌++◌, length, take, drop, IsUtf8, IsCharBoundary, Result, Ok, Err, string_bytes}
use Rattle.std.specs.List.{flat_map, replace_range}
use Rattle.std.specs.declared.ops.Range.{Range}
use Rattle.plain_text.specs.Units.{units_in}
use Rattle.dart_text.specs.Edits.{max_text, edited, short_edit}
use Rattle.dart_text.specs.declared.edit.EditRefusal.{EditRefusal}
use Rattle.dart_text.specs.declared.piece.Piece.{Piece}
use Rattle.dart_text.specs.declared.pieces.Front.{Front}
use Rattle.dart_text.specs.declared.pieces.Change.{Change}

-- the text of pieces, one behind the other
abbrev pub spelt : List Piece → List ℕ
spelt pieces = flat_map (λ (p : Piece). string_bytes p.text) pieces

-- the front is some first pieces, and has their units
pub record IsFront (pieces : List Piece) (front : Front) : Type 0 where
  pub within : front.pieces ≤ length pieces
  pub units : front.units ≡ units_in (spelt (take front.pieces pieces))

-- texts before and behind the middle of a text, with so many units before it
pub record IsAround (middle : List ℕ) (before : ℕ) (front back : List ℕ) : Type 0 where
  pub front_utf8 : IsUtf8 front
  pub back_utf8 : IsUtf8 back
  pub units : units_in front ≡ before
  pub short : length (front ++ (middle ++ back)) ≤ max_text

-- The bytes of the middle from `part.start` up to `part.end` are those of the units that an edit replaces, whatever stands around it and is put in their place, unless the edited text is too long.
pub record IsReplacedIn (middle : List ℕ) (before offset count : ℕ) (part : Range ℕ) : Type 0 where
  pub in_order : part.start ≤ part.end
  pub starts : IsCharBoundary middle part.start
  pub ends : IsCharBoundary middle part.end
  pub puts : (front back with : List ℕ) → IsAround middle before front back → IsUtf8 with
      → edited (front ++ (middle ++ back)) offset count with ≡ short_edit (front ++ (replace_range middle part.start part.end with ++ back))

-- the edit is refused, whatever stands around the middle
pub record IsRefusedIn (middle : List ℕ) (before offset count : ℕ) (refusal : EditRefusal) : Type 0 where
  pub tells : (front back with : List ℕ) → IsAround middle before front back → edited (front ++ (middle ++ back)) offset count with ≡ Err refusal

-- the pieces with those of the change in their place have the text of the answer
pub record IsChange (pieces : List Piece) (answer : Result (List ℕ) EditRefusal) (change : Change) : Type 0 where
  pub in_order : change.first ≤ change.last
  pub within : change.last ≤ length pieces
  pub puts : answer ≡ Ok (spelt (take change.first pieces) ++ (string_bytes change.text ++ spelt (drop change.last pieces)))
  pub short : length (spelt (take change.first pieces) ++ (string_bytes change.text ++ spelt (drop change.last pieces))) ≤ max_text
