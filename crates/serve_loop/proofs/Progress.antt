use Rattle.std.specs.Prelude.{◌≡◌, ℕ, Bool, List, drop, Option, Some}
use Rattle.fault_io.specs.Bytes.{and_then}
use Rattle.serve_loop.specs.Event.{Event}
use Rattle.fault_io.specs.Reading.{Reading}
use Rattle.serve_loop.specs.Replies.{Answered, lines_in, replies_in, state_after, AreGiven, UseNothing}
use Rattle.serve_loop.specs.Turn.{Stands}
use Rattle.serve_loop.specs.Marks.{MarksTell}

-- what was answered so far; `f` counts the faults of the store, `n` its calls for a folder and `k` those for a file, each at first and now
pub record Progress {State : Type 0} (uses : Event → Bool) (gives : State → Event → Bool → Option (List ℕ) → State → Type 0) (max : ℕ) (s : State) (input : List ℕ) (old now : Option (List ℕ)) (state : State) (r : Reading) (left : Option (List ℕ)) (f fnow n nnow k know : ℕ) : Type 0 where
  pub answered : List (Answered State)
  pub given : AreGiven gives max s answered
  pub marks : MarksTell uses max answered f fnow
  pub quiet : UseNothing uses max (lines_in answered) → (nnow ≡ n) × (know ≡ k)
  pub written : now ≡ and_then old (replies_in answered)
  pub state_is : state ≡ state_after s answered
  pub left_is : left ≡ Some (drop r.taken input)
  pub stands : Stands input (lines_in answered) r
