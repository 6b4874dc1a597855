-- The step table: what the row of each term does, or how it goes wrong.
use Rattle.std.specs.Prelude.{ℤ, Bool, true, false, not, if◌then◌else◌, List, Option, Some, None, slice_index_or}
use Rattle.dart_types.specs.Ty.{Ty}
use Rattle.core_ir.specs.declared.points.SlotId.{SlotId}
use Rattle.core_ir.specs.declared.points.PointId.{PointId}
use Rattle.core_ir.specs.declared.values.Value.{Value}
use Rattle.core_ir.specs.declared.values.Value.TheVariants.{Null, Integer, Boolean}
use Rattle.core_ir.specs.declared.points.Operand.{Operand}
use Rattle.core_ir.specs.declared.points.Operand.TheVariants.{Slot, Constant}
use Rattle.core_ir.specs.declared.points.Term.{Term}
use Rattle.core_ir.specs.declared.points.Term.TheVariants.{Store, Declare, Initialize, Add, Less, NotEqual, Branch, TestNull, Goto, Output, End}
use Rattle.core_ir.specs.Program.{Function, Program}
use Rattle.core_machine.specs.declared.effect.Effect.{Effect}
use Rattle.core_machine.specs.declared.effect.Effect.TheVariants.{Write, Go, Print, Stop}
use Rattle.core_ir.specs.Values.{no_objects, no_arguments, has, declared_at}
use Rattle.core_machine.specs.declared.effect.RunEnd.TheVariants.{Done}
use Rattle.core_machine.specs.Values.{sum_of, less_of, same_value}

-- how a row goes wrong
pub data Kind : Type 0 where
  -- a slot without a value is read
  ReadUnassignedLocal : Kind
  -- null is the receiver of an operator that it hasn't
  NullMember : Kind
  -- another receiver hasn't the operator
  NoMember : Kind
  -- null goes into a slot whose declared type it hasn't
  NullStore : Kind
  -- another value goes into a slot whose declared type it hasn't
  BadStore : Kind
  -- an argument hasn't the type that the operator takes
  BadArgument : Kind
  -- a condition is no bool
  NotBool : Kind

-- what a row does, or how it goes wrong
pub data Row : Type 0 where
  Does : Effect → Row
  Fails : Kind → Row

-- what the slots of a frame hold: a value, or none
abbrev pub Slots : Type 0
Slots = List (Option Value)

-- the value of a slot, if it has one
abbrev pub value_at : Slots → SlotId → Option Value
value_at slots slot = slice_index_or slots slot.0 None

-- the value of an operand, if it has one
abbrev pub value_of : Slots → Operand → Option Value
value_of slots (Slot slot) = value_at slots slot
value_of slots (Constant v) = Some v

-- reads an operand, and goes on with its value
abbrev pub with_value : Option Value → (Value → Row) → Row
with_value None go = Fails ReadUnassignedLocal
with_value (Some v) go = go v

-- how a value goes wrong in a slot whose declared type it hasn't
abbrev pub store_fault : Value → Kind
store_fault Null = NullStore
store_fault (Integer n) = BadStore
store_fault (Boolean b) = BadStore

-- whether a value has a type, in a run without objects and a frame without type arguments
abbrev pub has_type : Program → Value → Ty → Bool
has_type p v t = has p.rows.table no_objects no_arguments v t

-- writes a value into a slot, whose declared type it must have
abbrev pub put : Program → Function → SlotId → PointId → Value → Row
put p g to next v = if has_type p v (declared_at g to.0) then Does (Write to (Some v) next) else Fails (store_fault v)

-- an operator of int on a receiver and an argument, which both must be integers
abbrev pub on_integers : (ℤ → ℤ → Value) → (Value → Row) → Value → Value → Row
on_integers operator go Null w = Fails NullMember
on_integers operator go (Boolean b) w = Fails NoMember
on_integers operator go (Integer a) Null = Fails BadArgument
on_integers operator go (Integer a) (Boolean b) = Fails BadArgument
on_integers operator go (Integer a) (Integer b) = go (operator a b)

-- goes on where a condition leads, which must be a bool
abbrev pub choose : PointId → PointId → Value → Row
choose when_true when_false Null = Fails NotBool
choose when_true when_false (Integer n) = Fails NotBool
choose when_true when_false (Boolean true) = Does (Go when_true)
choose when_true when_false (Boolean false) = Does (Go when_false)

-- the one point where a value is null, and the other where it isn't
abbrev pub if_null : PointId → PointId → Value → PointId
if_null null other Null = null
if_null null other (Integer n) = other
if_null null other (Boolean b) = other

-- the row of a term of a function, by what the slots hold
abbrev pub row : Program → Function → Slots → Term → Row
row p g slots (Store to from next) = with_value (value_of slots from) (put p g to next)
row p g slots (Declare slot next) = Does (Write slot None next)
row p g slots (Initialize slot from next) = with_value (value_of slots from) (put p g slot next)
row p g slots (Add to left right next) =
    with_value (value_of slots left) (λ a. with_value (value_of slots right) (on_integers sum_of (put p g to next) a))
row p g slots (Less to left right next) =
    with_value (value_of slots left) (λ a. with_value (value_of slots right) (on_integers less_of (put p g to next) a))
row p g slots (NotEqual to left right next) =
    with_value (value_of slots left) (λ a. with_value (value_of slots right) (λ b. put p g to next (Boolean (not (same_value a b)))))
row p g slots (Branch on when_true when_false) = with_value (value_of slots on) (choose when_true when_false)
row p g slots (TestNull slot null other) = with_value (value_at slots slot) (λ v. Does (Go (if_null null other v)))
row p g slots (Goto next) = Does (Go next)
row p g slots (Output from next) = with_value (value_of slots from) (λ v. Does (Print v next))
row p g slots End = Does (Stop Done)

-- a row does something
abbrev pub IsDoing : Row → Type 0
IsDoing (Does effect) = Unit {0}
IsDoing (Fails kind) = ⊥
