-- Which programs may be asked about: what they name is in them.
use Rattle.std.specs.Prelude.{◌≡◌, ◌≢◌, ℕ, ◌<◌, ◌≤◌, ◌^◌, Some, All, IsFalse, slice_get, length}
use Rattle.dart_types.specs.SubTest.{sub}
use Rattle.core_ir.specs.Program.{Function, Program}
use Rattle.core_ir.specs.Values.{int, bool}
use Rattle.core_ir.specs.declared.facts.SlotFact.{SlotFact}
use Rattle.core_ir.specs.declared.points.SlotId.{SlotId}
use Rattle.core_ir.specs.declared.points.Point.{Point}
use Rattle.core_check.specs.Known.{function_at, point_at}
use Rattle.core_check.specs.Shapes.{WayShape, TermShape, shape}

-- the function has this slot
abbrev pub IsSlot : Function → SlotId → Type 0
IsSlot g slot = slot.0 < length g.slots

-- a way leads to a point of the function with the number n
pub record IsWay (p : Program) (n : ℕ) (way : WayShape) : Type 0 where
  pub next_in : way.next.0 < length p.points
  pub same_function : (point_at p way.next.0).function.0 ≡ n

-- what a shape names is there: slots of the function g, whose number is n, and points of it
pub record IsShape (p : Program) (g : Function) (n : ℕ) (s : TermShape) : Type 0 where
  pub slots_in : All (IsSlot g) s.slots
  pub ways_in : All (IsWay p n) s.ways

-- a point with the number k is of a function, which has the slots that its facts list and what its term names; and the term doesn't name the point itself as next
pub record IsPointOf (p : Program) (k : ℕ) (point : Point) : Type 0 where
  pub function_in : point.function.0 < length p.functions
  pub listed_in : All (λ (fact : SlotFact). IsSlot (function_at p point.function.0) fact.slot) point.facts.listed
  pub shape_in : IsShape p (function_at p point.function.0) point.function.0 (shape point.term)
  pub moves_on : All (λ (way : WayShape). way.next.0 ≢ k) (shape point.term).ways

-- the same by the function g and the shape s of the term
pub record HasPointParts (p : Program) (k : ℕ) (point : Point) (g : Function) (s : TermShape) : Type 0 where
  pub listed_in : All (λ (fact : SlotFact). IsSlot g fact.slot) point.facts.listed
  pub shape_in : IsShape p g point.function.0 s
  pub moves_on : All (λ (way : WayShape). way.next.0 ≢ k) s.ways

-- the entry of the function with the number n is a point of it
pub record IsFunctionOf (p : Program) (n : ℕ) (g : Function) : Type 0 where
  pub entry_in : g.entry.0 < length p.points
  pub entry_own : (point_at p g.entry.0).function.0 ≡ n

-- the program has the function with which it begins and no more points than there are numbers for them, its functions and points are well formed, and no value is both an integer and a bool
pub record IsWellFormed (p : Program) : Type 0 where
  pub main_in : p.main.0 < length p.functions
  pub numbered : length p.points ≤ 2 ^ 32
  pub functions_in : (n : ℕ) (g : Function) → slice_get p.functions n ≡ Some g → IsFunctionOf p n g
  pub points_in : (k : ℕ) (point : Point) → slice_get p.points k ≡ Some point → IsPointOf p k point
  pub int_apart : IsFalse (sub p.rows.table int bool)
  pub bool_apart : IsFalse (sub p.rows.table bool int)
