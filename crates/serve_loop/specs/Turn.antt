-- One turn of the loop: where it stands in the input.
use Rattle.std.specs.Prelude.{◌≡◌, ℕ, ◌+◌, ◌<◌, ◌≤◌, Bool, true, false, List, [], ◌∷◌, ◌++◌, length, take, drop}
use Rattle.fault_io.specs.Lines.{has_line_feed, lines_of, input_lines}
use Rattle.fault_io.specs.Reading.{Reading}
use Rattle.fault_io.specs.declared.line.TheConstants.{PIECE}
use Rattle.serve_loop.specs.Event.{event_of_line, event_shown}
use Rattle.serve_loop.specs.Replies.{text_of}
use Rattle.serve_loop.specs.declared.end.ServeEnd.{ServeEnd}
use Rattle.serve_loop.specs.declared.end.ServeEnd.TheVariants.{Done, InputSpent, ReadFault, WriteFault, Memory, SinkMemory}

-- no line holds a line feed
abbrev pub AreLines : List (List ℕ) → Type 0
AreLines [] = Unit {0}
AreLines (line ∷ lines) = (has_line_feed line ≡ false) × AreLines lines

-- exactly these lines of the input were read so far
pub record Stands (input : List ℕ) (lines : List (List ℕ)) (r : Reading) : Type 0 where
  pub within : r.taken ≤ r.budget
  pub fits : r.taken ≤ length input
  pub before_end : r.at_end ≡ false → (take r.taken input ≡ text_of lines ++ r.kept) × AreLines lines
  pub past_end : r.at_end ≡ true → (lines ≡ input_lines r.budget input) × (length input < r.budget) × (length input ≤ r.taken)

-- of the lines whose line feed is among the bytes that were taken these stand first; those that stand behind the next are short
pub record AreFirst (input : List ℕ) (lines : List (List ℕ)) (taken : ℕ) : Type 0 where
  pub unanswered : List (List ℕ)
  pub feeds : lines ++ unanswered ≡ lines_of false (take taken input)
  pub ahead : length (text_of (drop 1 unanswered)) ≤ PIECE

-- one line more was read, and the input is taken no further than a piece past it
pub record Step (input : List ℕ) (lines : List (List ℕ)) (limit : ℕ) (is_too_long : Bool) (r : Reading) : Type 0 where
  pub line : List ℕ
  pub more : List (List ℕ)
  pub next : lines ++ line ∷ more ≡ input_lines r.budget input
  pub shown : event_shown r.bytes is_too_long ≡ event_of_line limit line
  pub ahead : r.taken ≤ length (text_of (lines ++ line ∷ [])) + PIECE
  pub first : AreFirst input lines r.taken
  pub stands : Stands input (lines ++ line ∷ []) r

-- no line more was read, for this reason
abbrev pub StopsAt : ServeEnd → List ℕ → List (List ℕ) → Reading → Type 0
StopsAt Done input lines r = (lines ≡ input_lines r.budget input) × (length input < r.budget) × (length input ≤ r.taken)
StopsAt InputSpent input lines r = (lines ≡ input_lines r.budget input) × (r.taken ≡ r.budget) × (r.taken ≤ length input)
StopsAt ReadFault input lines r = (lines ≡ lines_of false (take r.taken input)) × (r.taken ≤ r.budget) × (r.taken ≤ length input)
StopsAt Memory input lines r = (more : List (List ℕ)) × (lines ++ more ≡ input_lines r.budget input) × AreFirst input lines r.taken × (r.taken ≤ r.budget) × (r.taken ≤ length input)
StopsAt WriteFault input lines r = ⊥
StopsAt SinkMemory input lines r = ⊥
