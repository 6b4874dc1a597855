-- What the parts of a shape name, in a function: where the slots of a term's shape are there, so is what its parts name.
use Rattle.std.specs.Prelude.{All}
use Rattle.core_ir.specs.Program.{Function}
use Rattle.core_ir.specs.declared.points.Operand.{Operand}
use Rattle.core_ir.specs.declared.points.Operand.TheVariants.{Slot, Constant}
use Rattle.core_check.specs.declared.parts.TypeSource.{TypeSource}
use Rattle.core_check.specs.declared.parts.TypeSource.TheVariants.{IntType, BoolType, OperandType, NonNullType}
use Rattle.core_check.specs.declared.parts.Stored.{Stored}
use Rattle.core_check.specs.declared.parts.Asked.{Asked}
use Rattle.core_check.specs.declared.parts.How.{How}
use Rattle.core_check.specs.declared.parts.How.TheVariants.{Fresh, Holds, Narrows}
use Rattle.core_check.specs.declared.parts.Change.{Change}
use Rattle.core_check.specs.Shapes.{WayShape, TermShape}
use Rattle.core_check.specs.WellFormed.{IsSlot}

-- an operand is a constant, or a slot that the function has
abbrev pub IsOperand : Function → Operand → Type 0
IsOperand g (Slot slot) = IsSlot g slot
IsOperand g (Constant value) = Unit {0}

-- a type is named by what the function has
abbrev pub IsSource : Function → TypeSource → Type 0
IsSource g IntType = Unit {0}
IsSource g BoolType = Unit {0}
IsSource g (OperandType operand) = IsOperand g operand
IsSource g (NonNullType slot) = IsSlot g slot

-- so is the type of a change
abbrev pub IsHow : Function → How → Type 0
IsHow g Fresh = Unit {0}
IsHow g (Holds ty) = IsSource g ty
IsHow g (Narrows ty) = IsSource g ty

-- the function has what a part of a shape names
pub record IsStored (g : Function) (stored : Stored) : Type 0 where
  pub slot_in : IsSlot g stored.slot
  pub ty_in : IsSource g stored.ty

pub record IsAsked (g : Function) (asked : Asked) : Type 0 where
  pub found_in : IsSource g asked.found
  pub expected_in : IsSource g asked.expected

pub record IsChange (g : Function) (change : Change) : Type 0 where
  pub slot_in : IsSlot g change.slot
  pub how_in : IsHow g change.how

-- the function has what the changes of a way name
abbrev pub AreChanges : Function → WayShape → Type 0
AreChanges g way = All (IsChange g) way.changes

-- the function has what the parts of a shape name
pub record IsNamed (g : Function) (s : TermShape) : Type 0 where
  pub reads_in : All (IsOperand g) s.reads
  pub stores_in : All (IsStored g) s.stores
  pub asks_in : All (IsAsked g) s.asks
  pub changes_in : All (AreChanges g) s.ways
