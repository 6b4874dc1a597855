-- Marks of the lines in which the store of files failed.
use Rattle.std.specs.Prelude.{◌≡◌, ℕ, ◌+◌, ◌<◌, ◌≤◌, Bool, true, false, List, [], ◌∷◌, if◌then◌else◌}
use Rattle.fault_io.specs.Faults.{Rose, last_count}
use Rattle.serve_loop.specs.Event.{Event, event_of_line}
use Rattle.serve_loop.specs.Replies.{Answered}

-- a mark says that the count of faults rose, which only an event that may use the store allows
abbrev pub Tells : Bool → Bool → ℕ → ℕ → Type 0
Tells allowed true old new = (allowed ≡ true) × Rose old new
Tells allowed false old new = new ≡ old

-- some mark says whether the count of faults rose
abbrev pub MayRise : Bool → ℕ → ℕ → Type 0
MayRise allowed old new = (mark : Bool) × Tells allowed mark old new

-- only lines whose events may use the store are marked
abbrev pub AreAllowed : {State : Type 0} → (Event → Bool) → ℕ → List (Answered State) → Type 0
AreAllowed uses limit [] = Unit {0}
AreAllowed uses limit (a ∷ answered) = (a.mark ≡ true → uses (event_of_line limit a.line) ≡ true) × AreAllowed uses limit answered

-- how many lines are marked
abbrev pub count_marks : {State : Type 0} → List (Answered State) → ℕ
count_marks [] = 0
count_marks (a ∷ answered) = (if a.mark then 1 else 0) + count_marks answered

-- at most as many lines are marked as the count rose by, and at least one where it rose
pub record MarksTell {State : Type 0} (uses : Event → Bool) (limit : ℕ) (answered : List (Answered State)) (old new : ℕ) : Type 0 where
  pub allowed : AreAllowed uses limit answered
  pub no_less : old ≤ new
  pub most : new < last_count → old + count_marks answered ≤ new
  pub some : count_marks answered ≡ 0 → new ≡ old

-- the count may have risen further while the first of these lines was answered, and did so only if its event may use the store
abbrev pub MayRiseOnce : (Event → Bool) → ℕ → List (List ℕ) → ℕ → ℕ → Type 0
MayRiseOnce uses limit [] old new = new ≡ old
MayRiseOnce uses limit (line ∷ lines) old new = MayRise (uses (event_of_line limit line)) old new
