-- What holds at every moment of a run of an accepted program.
use Rattle.std.specs.Prelude.{◌≡◌, ℕ, ◌<◌, IsTrue, All, List, [], ◌∷◌, None, Some, slice_index_or, length}
use Rattle.dart_types.specs.Ty.{Ty}
use Rattle.core_ir.specs.Program.{Function, Program}
use Rattle.core_ir.specs.Values.{declared_at}
use Rattle.core_ir.specs.declared.facts.Known.{Known}
use Rattle.core_ir.specs.declared.values.Value.{Value}
use Rattle.core_check.specs.Known.{function_at, point_at, facts_at, known_of, held_type}
use Rattle.core_machine.specs.Steps.{Slots, has_type}
use Rattle.core_machine.specs.State.{FrameState}

-- what is known of each slot of a frame
abbrev pub View : Type 0
View = ℕ → Known

-- the slot with the number i holds a value of a type
pub record Holds (p : Program) (slots : Slots) (i : ℕ) (t : Ty) : Type 0 where
  pub value : Value
  pub held : slice_index_or slots i None ≡ Some value
  pub typed : IsTrue (has_type p value t)

-- there is each slot of the function, and what a slot holds has its declared type
pub record SlotsFit (p : Program) (g : Function) (slots : Slots) : Type 0 where
  pub wide : length slots ≡ length g.slots
  pub declared : (i : ℕ) (v : Value) → i < length g.slots → slice_index_or slots i None ≡ Some v → IsTrue (has_type p v (declared_at g i))

-- the slots hold what a view says of them
pub record ViewFits (p : Program) (g : Function) (slots : Slots) (view : View) : Type 0 where
  pub holds : (i : ℕ) → i < length g.slots → IsTrue (view i).assigned → Holds p slots i (held_type (declared_at g i) (view i).held)

-- the views of a frame: what is known at its point
abbrev pub views_of : Program → FrameState → List View
views_of p f = known_of (facts_at p f.point.0) ∷ []

-- a frame stands at a point of its function that a run may come to, and its slots hold what each of its views says
pub record FrameFits (p : Program) (f : FrameState) : Type 0 where
  pub function_in : f.function.0 < length p.functions
  pub inside : f.point.0 < length p.points
  pub own : (point_at p f.point.0).function.0 ≡ f.function.0
  pub reachable : IsTrue (facts_at p f.point.0).reachable
  pub slots : SlotsFit p (function_at p f.function.0) f.slots
  pub views : All (ViewFits p (function_at p f.function.0) f.slots) (views_of p f)

-- each frame fits
pub record FramesFit (p : Program) (running : FrameState) (waiting : List FrameState) : Type 0 where
  pub first : FrameFits p running
  pub others : All (FrameFits p) waiting
