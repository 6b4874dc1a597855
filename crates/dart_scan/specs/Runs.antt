-- The pieces of a text in runs: where no string is open, the pieces so far are final, and what is left is a text of its own.
use Rattle.std.specs.Prelude.{◌≡◌, ◌≤◌, ◌<◌, Bool, true, false, List, [], ◌++◌, length, drop, All}
use Rattle.dart_scan.specs.declared.piece.Piece.{Piece}
use Rattle.dart_scan.specs.Pieces.{spelled}
use Rattle.dart_scan.specs.Cutting.{Cut, size_of, to_come, Sound, IsOutside, Steps}

-- A cut that pauses where no string is open; one without pieces is at the end of its text.
pub record Pauses (old new : Cut) : Type 0 where
  pub text : new.text ≡ old.text
  pub sound : Sound new
  pub same : to_come new ≡ to_come old
  pub outside : IsOutside new
  pub last : new.pieces ≡ [] → new.at ≡ length new.text

-- a step, if there is one to take, or else a pause
abbrev pub StepsOrPauses : Bool → Cut → Cut → Type 0
StepsOrPauses true old new = Steps old new
StepsOrPauses false old new = Pauses old new

-- A run of pieces at the front of the text of a cut, and the cut of what is left: the pieces of the text are those of the run, and then those of what is left. A run without pieces is the last.
pub record IsRun (old new : Cut) (run : List Piece) : Type 0 where
  pub sound : Sound new
  pub within : size_of run ≤ length old.text
  pub text : new.text ≡ drop (size_of run) old.text
  pub some : All (λ piece. 0 < piece.size) run
  pub same : to_come old ≡ spelled run old.text ++ to_come new
  pub last : run ≡ [] → (old.text ≡ []) × (to_come old ≡ [])
