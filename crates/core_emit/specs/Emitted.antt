-- The points that code is made into, from its end to its start.
use Rattle.std.specs.Prelude.{◌≡◌, ℕ, ◌+◌, ◌<◌, List, [], ◌∷◌, ◌++◌, Option, Some, All, IsTrue, length, slice_get, slice_index_or, slice_set}
use Rattle.dart_types.specs.FormedTable.{FormedTable}
use Rattle.core_ir.specs.PointFacts.{PointFacts}
use Rattle.core_ir.specs.Program.{Function, Program}
use Rattle.core_ir.specs.declared.facts.SlotFact.{SlotFact}
use Rattle.core_ir.specs.declared.points.FunctionId.{FunctionId}
use Rattle.core_ir.specs.declared.points.Point.{Point}
use Rattle.core_ir.specs.declared.points.PointId.{PointId}
use Rattle.core_ir.specs.declared.points.Span.{Span}
use Rattle.core_ir.specs.declared.points.Term.{Term}
use Rattle.core_ir.specs.declared.points.Term.TheVariants.{Goto, End}
use Rattle.core_check.specs.Accepted.{IsFine}
use Rattle.core_check.specs.Known.{no_point, facts_at, function_at, function_of, point_at}
use Rattle.core_check.specs.Shapes.{shape}
use Rattle.core_check.specs.WellFormed.{IsSlot, IsPointOf}
use Rattle.core_emit.specs.Code.{Code, nothing, leaf, sequence, choice, loop, step_to, test_to}
use Rattle.core_emit.specs.declared.steps.Step.{Step}
use Rattle.core_emit.specs.declared.steps.Step.TheVariants as step
use Rattle.core_emit.specs.declared.steps.Test.{Test}

-- points, and the one among them at which the code that was made last begins
pub record Made : Type 0 where
  pub points : List Point
  pub entry : PointId

-- points, and the one among them at which code begins
abbrev pub made : List Point → PointId → Made
made points entry = record { points = points; entry = entry }

-- the number of the next point
abbrev pub after_last : List Point → PointId
after_last points = record { 0 = length points }

-- one more point, which is the entry
abbrev pub with_point : FunctionId → Option Span → PointFacts → Term → List Point → Made
with_point id site facts term points = record { points = points ++ record { function = id; site = site; facts = facts; term = term } ∷ []; entry = after_last points }

-- the points with another term at one
abbrev pub with_term : List Point → PointId → Term → List Point
with_term points at term = slice_set points at.0 (record (slice_index_or points at.0 no_point) { term = term })

-- The points of code that goes on at a point: those that come last in a run are made first, so that each names points that there are, but for the head of a loop, which is made first and told its term at the end.
abbrev pub emit : FunctionId → Code → PointId → List Point → Made
emit id nothing next points = record { points = points; entry = next }
emit id (leaf site facts step) next points = with_point id site facts (step_to step next) points
emit id (sequence first second) next points = let after = emit id second next points in emit id first after.entry after.points
emit id (choice site facts test first second) next points =
    let other = emit id second next points in
    let one = emit id first next other.points in
    with_point id site facts (test_to test one.entry other.entry) one.points
emit id (loop site head facts condition test body) next points =
    let start = with_point id site head End points in
    let passes = emit id body start.entry start.points in
    let tests = with_point id site facts (test_to test passes.entry next) passes.points in
    let asks = emit id condition tests.entry tests.points in
    record { points = with_term asks.points start.entry (Goto asks.entry); entry = start.entry }

-- what is known where code begins behind which this is known
abbrev pub known_first : Code → PointFacts → PointFacts
known_first nothing after = after
known_first (leaf site facts step) after = facts
known_first (sequence first second) after = known_first first (known_first second after)
known_first (choice site facts test first second) after = facts
known_first (loop site head facts condition test body) after = head

-- a program with these points
abbrev pub with_points : Program → List Point → Program
with_points p points = record p { points = points }

-- a step and a test lead from what is known before to what is known at the points that they name, in whatever program of these rows
abbrev pub StepLeads : FormedTable → Function → PointFacts → Step → PointFacts → Type 0
StepLeads rows g facts step after =
    (p : Program) (next : PointId) → p.rows ≡ rows → facts_at p next.0 ≡ after → IsFine p g facts (shape (step_to step next))

abbrev pub TestLeads : FormedTable → Function → PointFacts → Test → (one other : PointFacts) → Type 0
TestLeads rows g facts test one other =
    (p : Program) (first second : PointId) → p.rows ≡ rows → facts_at p first.0 ≡ one → facts_at p second.0 ≡ other → IsFine p g facts (shape (test_to test first second))

-- each part of code, where a run may come to it, leads from what is known before it to what is known behind it
abbrev pub Passes : FormedTable → Function → Code → PointFacts → Type 0
Passes rows g nothing after = Unit {0}
Passes rows g (leaf site facts step) after = IsTrue facts.reachable → StepLeads rows g facts step after
Passes rows g (sequence first second) after = Passes rows g first (known_first second after) × Passes rows g second after
Passes rows g (choice site facts test first second) after =
    (IsTrue facts.reachable → TestLeads rows g facts test (known_first first after) (known_first second after)) × (Passes rows g first after × Passes rows g second after)
Passes rows g (loop site head facts condition test body) after =
    (IsTrue head.reachable → StepLeads rows g head step.GoOn (known_first condition facts))
    × ((IsTrue facts.reachable → TestLeads rows g facts test (known_first body head) after)
    × (Passes rows g condition facts × Passes rows g body head))

-- no clause fails at any of the points that a run may come to, each by its own function
pub record AllFine (p : Program) : Type 0 where
  pub each : (k : ℕ) → k < length p.points → IsTrue (facts_at p k).reachable → IsFine p (function_of p k) (facts_at p k) (shape (point_at p k).term)

-- the points that are made are fine, beside those that there were: the first of them has what is known before, and the points that there were keep their facts
pub record IsEmitted (p : Program) (old : List Point) (before : PointFacts) (made : Made) : Type 0 where
  pub fine : AllFine (with_points p made.points)
  pub entry_in : made.entry.0 < length made.points
  pub entry_facts : facts_at (with_points p made.points) made.entry.0 ≡ before
  pub kept : (k : ℕ) → k < length old → facts_at (with_points p made.points) k ≡ facts_at (with_points p old) k

-- code of a function that passes, and goes on where this is known, is made into such points, behind points of any functions that are fine
abbrev pub EmitsFinePoints : Program → Function → FunctionId → Code → PointFacts → PointId → List Point → Type 0
EmitsFinePoints p g id code after next old =
    function_at p id.0 ≡ g → Passes p.rows g code after → AllFine (with_points p old) → next.0 < length old → facts_at (with_points p old) next.0 ≡ after
    → IsEmitted p old (known_first code after) (emit id code next old)

-- Slots and numbers.

-- the function has the slots that a step names, wherever the step goes on
abbrev pub IsStepOf : Function → Step → Type 0
IsStepOf g step = (next : PointId) → All (IsSlot g) (shape (step_to step next)).slots

-- and those that a test names
abbrev pub IsTestOf : Function → Test → Type 0
IsTestOf g test = (first second : PointId) → All (IsSlot g) (shape (test_to test first second)).slots

-- facts are of slots that the function has
abbrev pub AreFactsOf : Function → PointFacts → Type 0
AreFactsOf g facts = All (λ (fact : SlotFact). IsSlot g fact.slot) facts.listed

-- code names what the function has
abbrev pub IsCodeOf : Function → Code → Type 0
IsCodeOf g nothing = Unit {0}
IsCodeOf g (leaf site facts step) = AreFactsOf g facts × IsStepOf g step
IsCodeOf g (sequence first second) = IsCodeOf g first × IsCodeOf g second
IsCodeOf g (choice site facts test first second) = (AreFactsOf g facts × IsTestOf g test) × (IsCodeOf g first × IsCodeOf g second)
IsCodeOf g (loop site head facts condition test body) = (AreFactsOf g head × (AreFactsOf g facts × IsTestOf g test)) × (IsCodeOf g condition × IsCodeOf g body)

-- all points are well formed, each one of a function of the program
pub record AllFormed (p : Program) : Type 0 where
  pub points_in : (k : ℕ) (point : Point) → slice_get p.points k ≡ Some point → IsPointOf p k point

-- a point that there is, of this function
pub record IsOwn (points : List Point) (id : FunctionId) (point : PointId) : Type 0 where
  pub inside : point.0 < length points
  pub own : (slice_index_or points point.0 no_point).function ≡ id

-- the points that are made are well formed, beside those that there were: the code begins at a point of its function, and the points that there were stay those of theirs
pub record AreFormed (p : Program) (id : FunctionId) (old : List Point) (made : Made) : Type 0 where
  pub formed : AllFormed (with_points p made.points)
  pub entry_own : IsOwn made.points id made.entry
  pub kept : (k : ℕ) → k < length old → (point_at (with_points p made.points) k).function ≡ (point_at (with_points p old) k).function

-- code that names what its function has, and goes on at a point of it, is made into such points, behind points of any functions that are well formed
abbrev pub EmitsFormedPoints : Program → Function → FunctionId → Code → PointId → List Point → Type 0
EmitsFormedPoints p g id code next old =
    id.0 < length p.functions → function_at p id.0 ≡ g → IsCodeOf g code → AllFormed (with_points p old) → IsOwn old id next
    → AreFormed p id old (emit id code next old)

-- how many points code has
abbrev pub size_of : Code → ℕ
size_of nothing = 0
size_of (leaf site facts step) = 1
size_of (sequence first second) = size_of first + size_of second
size_of (choice site facts test first second) = 1 + size_of first + size_of second
size_of (loop site head facts condition test body) = 2 + size_of condition + size_of body
