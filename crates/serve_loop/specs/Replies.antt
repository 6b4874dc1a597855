-- What a server writes to the lines that it reads.
use Rattle.std.specs.Prelude.{◌≡◌, ℕ, Bool, false, List, [], ◌∷◌, ◌++◌, map, Option, unwrap_or}
use Rattle.std.specs.List.{flat_map}
use Rattle.fault_io.specs.Lines.{line_feed}
use Rattle.serve_loop.specs.Event.{Event, event_of_line}

-- a line that was answered: its mark, which says whether the store of files failed meanwhile, its reply if it has one, and the state after it
pub record Answered (State : Type 0) : Type 0 where
  pub line : List ℕ
  pub mark : Bool
  pub reply : Option (List ℕ)
  pub after : State

-- the lines alone
abbrev pub lines_in : {State : Type 0} → List (Answered State) → List (List ℕ)
lines_in answered = map (λ a. a.line) answered

-- the text of lines, each with its line feed
abbrev pub text_of : List (List ℕ) → List ℕ
text_of lines = flat_map (λ line. line ++ line_feed ∷ []) lines

-- the bytes that answer a line, none where it has no reply
abbrev pub bytes_of : {State : Type 0} → Answered State → List ℕ
bytes_of a = unwrap_or a.reply []

-- the replies to these lines, one after another
abbrev pub replies_in : {State : Type 0} → List (Answered State) → List ℕ
replies_in [] = []
replies_in (a ∷ answered) = bytes_of a ++ replies_in answered

-- the state after these lines
abbrev pub state_after : {State : Type 0} → State → List (Answered State) → State
state_after state [] = state
state_after state (a ∷ answered) = state_after a.after answered

-- this line has one of the replies, and leaves one of the states, that are given to it in this state
abbrev pub IsGiven : {State : Type 0} → (State → Event → Bool → Option (List ℕ) → State → Type 0) → ℕ → State → Answered State → Type 0
IsGiven gives limit state a = gives state (event_of_line limit a.line) a.mark a.reply a.after

-- so have these, each in the state that the lines before it left
abbrev pub AreGiven : {State : Type 0} → (State → Event → Bool → Option (List ℕ) → State → Type 0) → ℕ → State → List (Answered State) → Type 0
AreGiven gives limit state [] = Unit {0}
AreGiven gives limit state (a ∷ answered) = IsGiven gives limit state a × AreGiven gives limit a.after answered

-- the events of none of these lines may use the store of files
abbrev pub UseNothing : (Event → Bool) → ℕ → List (List ℕ) → Type 0
UseNothing uses limit [] = Unit {0}
UseNothing uses limit (line ∷ lines) = (uses (event_of_line limit line) ≡ false) × UseNothing uses limit lines
