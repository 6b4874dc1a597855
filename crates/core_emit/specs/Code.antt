-- Code: steps one after another, choices and loops, without numbers of points.
use Rattle.std.specs.Prelude.{ℕ, ◌+◌, max, List, [], ◌∷◌, Option}
use Rattle.core_ir.specs.PointFacts.{PointFacts}
use Rattle.core_ir.specs.declared.points.PointId.{PointId}
use Rattle.core_ir.specs.declared.points.Span.{Span}
use Rattle.core_ir.specs.declared.points.Term.{Term}
use Rattle.core_ir.specs.declared.points.Term.TheVariants.{Store, Declare, Initialize, Add, Less, NotEqual, Branch, TestNull, Goto, Output}
use Rattle.core_emit.specs.declared.steps.Step.{Step}
use Rattle.core_emit.specs.declared.steps.Step.TheVariants as step
use Rattle.core_emit.specs.declared.steps.Test.{Test}
use Rattle.core_emit.specs.declared.steps.Test.TheVariants as test

-- the term that goes on at a point
abbrev pub step_to : Step → PointId → Term
step_to (step.Store to from) next = Store to from next
step_to (step.Declare slot) next = Declare slot next
step_to (step.Initialize slot from) next = Initialize slot from next
step_to (step.Add to left right) next = Add to left right next
step_to (step.Less to left right) next = Less to left right next
step_to (step.NotEqual to left right) next = NotEqual to left right next
step_to (step.Output from) next = Output from next
step_to step.GoOn next = Goto next

abbrev pub test_to : Test → (first second : PointId) → Term
test_to (test.OnTruth on) first second = Branch on first second
test_to (test.OnNotNull slot) first second = TestNull slot second first

-- code, with what is known before each term
pub data Code : Type 0 where
  -- what does nothing: it has no points
  nothing : Code
  leaf : (site : Option Span) (facts : PointFacts) (step : Step) → Code
  sequence : (first second : Code) → Code
  choice : (site : Option Span) (facts : PointFacts) (test : Test) (first second : Code) → Code
  -- at the head the condition is done, then the test; its first way goes on with the body and back to the head
  loop : (site : Option Span) (head facts : PointFacts) (condition : Code) (test : Test) (body : Code) → Code

-- any number of parts, one after another
abbrev pub in_order : List Code → Code
in_order [] = nothing
in_order (part ∷ parts) = sequence part (in_order parts)

-- how deep code is nested: its parts are less deep
abbrev pub height_of : Code → ℕ
height_of nothing = 0
height_of (leaf site facts step) = 0
height_of (sequence first second) = max (height_of first) (height_of second) + 1
height_of (choice site facts test first second) = max (height_of first) (height_of second) + 1
height_of (loop site head facts condition test body) = max (height_of condition) (height_of body) + 1
