-- The shape of each term: the slots that it names, what it reads, stores and asks, and the ways on from it. One row for each term, and all that acceptance says of it.
use Rattle.std.specs.Prelude.{true, false, List, [], ◌∷◌, ◌++◌, flat_map, refl}
use Rattle.std.specs.Coded.{Coded, code_by, coded×, coded_list}
use Rattle.core_ir.specs.declared.values.Value.TheVariants.{Null, Integer, Boolean}
use Rattle.core_ir.specs.declared.points.SlotId.{SlotId}
use Rattle.core_ir.specs.contracts.points.SlotId as slot_id
use Rattle.core_ir.specs.declared.points.PointId.{PointId}
use Rattle.core_ir.specs.contracts.points.PointId as point_id
use Rattle.core_ir.specs.declared.points.Operand.{Operand}
use Rattle.core_ir.specs.contracts.points.Operand as operand
use Rattle.core_ir.specs.declared.points.Operand.TheVariants.{Slot, Constant}
use Rattle.core_ir.specs.declared.points.Term.{Term}
use Rattle.core_ir.specs.declared.points.Term.TheVariants.{Store, Declare, Initialize, Add, Less, NotEqual, Branch, TestNull, Goto, Output, End}
use Rattle.core_check.specs.declared.parts.TypeSource.{TypeSource}
use Rattle.core_check.specs.declared.parts.TypeSource.TheVariants.{IntType, BoolType, OperandType, NonNullType}
use Rattle.core_check.specs.declared.parts.Stored.{Stored}
use Rattle.core_check.specs.contracts.parts.Stored as stored
use Rattle.core_check.specs.declared.parts.Asked.{Asked}
use Rattle.core_check.specs.contracts.parts.Asked as asked
use Rattle.core_check.specs.declared.parts.How.TheVariants.{Fresh, Holds, Narrows}
use Rattle.core_check.specs.declared.parts.Change.{Change}
use Rattle.core_check.specs.contracts.parts.Change as change

-- a way on: the next point, and what changes on the way to it, one change after another
pub record WayShape : Type 0 where
  pub next : PointId
  pub changes : List Change

-- the slots that the term names, which its function must have; the operands that must have a value, in their order; the slots that are stored to, with the type of what is stored; the types that must be subtypes, so that the machine never goes wrong by them; and the ways on
pub record TermShape : Type 0 where
  pub slots : List SlotId
  pub reads : List Operand
  pub stores : List Stored
  pub asks : List Asked
  pub ways : List WayShape

-- how a way and a shape are stored
abbrev pub way_code : Coded WayShape
way_code =
    code_by (PointId × List Change) (coded× point_id.the_row.coded (coded_list change.the_row.coded)) (λ w. (w.next, w.changes)) (λ p. record { next = p.0; changes = p.1 }) (λ _. refl)

abbrev pub shape_code : Coded TermShape
shape_code =
    code_by (List SlotId × ((List Operand × List Stored) × (List Asked × List WayShape)))
    (coded× (coded_list slot_id.the_row.coded) (coded× (coded× (coded_list operand.the_row.coded) (coded_list stored.the_row.coded)) (coded× (coded_list asked.the_row.coded) (coded_list way_code))))
    (λ s. (s.slots, ((s.reads, s.stores), (s.asks, s.ways))))
    (λ p. record { slots = p.0; reads = p.1.0.0; stores = p.1.0.1; asks = p.1.1.0; ways = p.1.1.1 })
    (λ _. refl)

-- the slot that an operand names, if it isn't a constant
abbrev pub slot_of : Operand → List SlotId
slot_of (Slot slot) = slot ∷ []
slot_of (Constant value) = []

-- the slots that a term names by itself, and those of its operands
abbrev pub names : List SlotId → List Operand → List SlotId
names slots operands = slots ++ flat_map slot_of operands

-- a value of a type is stored to a slot; an operand must have a type
abbrev pub puts : SlotId → TypeSource → Stored
puts slot ty = record { slot = slot; ty = ty }

abbrev pub asks_of : Operand → TypeSource → Asked
asks_of operand ty = record { found = OperandType operand; expected = ty }

-- a slot has a value of a type from now on, in the cell that it has
abbrev pub holds : SlotId → TypeSource → Change
holds slot ty = record { slot = slot; how = Holds ty }

-- a slot has a fresh cell without a value
abbrev pub is_fresh : SlotId → Change
is_fresh slot = record { slot = slot; how = Fresh }

-- the value of a slot has a narrower type
abbrev pub narrows : SlotId → TypeSource → Change
narrows slot ty = record { slot = slot; how = Narrows ty }

-- a way on with some changes, and with none
abbrev pub way : PointId → List Change → WayShape
way next changes = record { next = next; changes = changes }

abbrev pub straight : PointId → WayShape
straight next = way next []

-- an operator on two integers, which stores a value of a type
abbrev pub on_integers : SlotId → (left right : Operand) → TypeSource → PointId → TermShape
on_integers to left right ty next = record {
  slots = names (to ∷ []) (left ∷ right ∷ []);
  reads = left ∷ right ∷ [];
  stores = puts to ty ∷ [];
  asks = asks_of left IntType ∷ asks_of right IntType ∷ [];
  ways = way next (holds to ty ∷ []) ∷ [];
}

-- a branch with the ways that it may take
abbrev pub on_condition : Operand → List WayShape → TermShape
on_condition on ways = record { slots = names [] (on ∷ []); reads = on ∷ []; stores = []; asks = asks_of on BoolType ∷ []; ways = ways }

-- the ways on from a branch: one on a constant takes one way
abbrev pub branch_ways : Operand → (when_true when_false : PointId) → List WayShape
branch_ways (Constant (Boolean true)) when_true when_false = straight when_true ∷ []
branch_ways (Constant (Boolean false)) when_true when_false = straight when_false ∷ []
branch_ways (Constant Null) when_true when_false = straight when_true ∷ straight when_false ∷ []
branch_ways (Constant (Integer n)) when_true when_false = straight when_true ∷ straight when_false ∷ []
branch_ways (Slot on) when_true when_false = straight when_true ∷ straight when_false ∷ []

-- the shape of each term
abbrev pub shape : Term → TermShape
shape (Store to from next) = record {
  slots = names (to ∷ []) (from ∷ []);
  reads = from ∷ [];
  stores = puts to (OperandType from) ∷ [];
  asks = [];
  ways = way next (holds to (OperandType from) ∷ []) ∷ [];
}
shape (Declare slot next) = record { slots = slot ∷ []; reads = []; stores = []; asks = []; ways = way next (is_fresh slot ∷ []) ∷ [] }
shape (Initialize slot from next) = record {
  slots = names (slot ∷ []) (from ∷ []);
  reads = from ∷ [];
  stores = puts slot (OperandType from) ∷ [];
  asks = [];
  ways = way next (is_fresh slot ∷ holds slot (OperandType from) ∷ []) ∷ [];
}
shape (Add to left right next) = on_integers to left right IntType next
shape (Less to left right next) = on_integers to left right BoolType next
shape (NotEqual to left right next) = record {
  slots = names (to ∷ []) (left ∷ right ∷ []);
  reads = left ∷ right ∷ [];
  stores = puts to BoolType ∷ [];
  asks = [];
  ways = way next (holds to BoolType ∷ []) ∷ [];
}
shape (Branch on when_true when_false) = on_condition on (branch_ways on when_true when_false)
shape (TestNull slot at_null other) = record {
  slots = slot ∷ [];
  reads = Slot slot ∷ [];
  stores = [];
  asks = [];
  ways = straight at_null ∷ way other (narrows slot (NonNullType slot) ∷ []) ∷ [];
}
shape (Goto next) = record { slots = []; reads = []; stores = []; asks = []; ways = straight next ∷ [] }
shape (Output from next) = record { slots = names [] (from ∷ []); reads = from ∷ []; stores = []; asks = []; ways = straight next ∷ [] }
shape End = record { slots = []; reads = []; stores = []; asks = []; ways = [] }
