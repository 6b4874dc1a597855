-- Steps that go wrong, and for each way to go wrong a program that takes it.
use Rattle.std.specs.Prelude.{◌≡◌, ℕ, ◌⊎◌, Bool, true, false, not, is_some, IsTrue, IsFalse, List, [], ◌∷◌, map, length, Some, None, pos}
use Rattle.std.specs.List.{list_any}
use Rattle.dart_types.specs.FormedTable.{FormedTable}
use Rattle.core_ir.specs.Program.{Program}
use Rattle.core_ir.specs.Values.{int, bool, declared_at}
use Rattle.core_ir.specs.declared.points.Point.{Point}
use Rattle.core_ir.specs.declared.points.SlotId.{SlotId}
use Rattle.core_ir.specs.declared.points.PointId.{PointId}
use Rattle.core_ir.specs.declared.points.Operand.{Operand}
use Rattle.core_ir.specs.declared.points.Operand.TheVariants.{Slot, Constant}
use Rattle.core_ir.specs.declared.points.Term.{Term}
use Rattle.core_ir.specs.declared.points.Term.TheVariants.{Store, Initialize, Add, Less, Branch, Output}
use Rattle.core_ir.specs.declared.values.Value.{Value}
use Rattle.core_ir.specs.declared.values.Value.TheVariants.{Null, Integer, Boolean}
use Rattle.core_check.specs.Known.{function_at, point_at}
use Rattle.core_check.specs.Shapes.{shape}
use Rattle.core_machine.specs.Steps.{Kind, ReadUnassignedLocal, NullMember, NoMember, NullStore, BadStore, BadArgument, NotBool, Slots, has_type, value_of}
use Rattle.core_machine.specs.State.{State}

-- the term that a run stands at
abbrev pub term_of : Program → State → Term
term_of p s = (point_at p s.running.point.0).term

-- whether an operand has no value
abbrev pub lacks_value : Slots → Operand → Bool
lacks_value slots from = not (is_some (value_of slots from))

-- a run that isn't over stands at a term that reads something without a value
pub record ReadsNothing (p : Program) (s : State) : Type 0 where
  pub going : s.end ≡ None
  pub missing : IsTrue (list_any (lacks_value s.running.slots) (shape (term_of p s)).reads)

-- a run that isn't over stands at a term that stores a value into a slot whose declared type it hasn't
pub record StoresMisfit (p : Program) (s : State) (v : Value) : Type 0 where
  pub going : s.end ≡ None
  pub to : SlotId
  pub from : Operand
  pub next : PointId
  pub store : (term_of p s ≡ Store to from next) ⊎ (term_of p s ≡ Initialize to from next)
  pub held : value_of s.running.slots from ≡ Some v
  pub misfit : IsFalse (has_type p v (declared_at (function_at p s.running.function.0) to.0))

-- whether a value is an integer, or a truth value
abbrev pub is_integer : Value → Bool
is_integer Null = false
is_integer (Integer n) = true
is_integer (Boolean b) = false

abbrev pub is_boolean : Value → Bool
is_boolean Null = false
is_boolean (Integer n) = false
is_boolean (Boolean b) = true

-- a run that isn't over stands at an operator of int, whose operands have these values
pub record Operates (p : Program) (s : State) (a b : Value) : Type 0 where
  pub going : s.end ≡ None
  pub to : SlotId
  pub left : Operand
  pub right : Operand
  pub next : PointId
  pub operator : (term_of p s ≡ Add to left right next) ⊎ (term_of p s ≡ Less to left right next)
  pub receiver : value_of s.running.slots left ≡ Some a
  pub argument : value_of s.running.slots right ≡ Some b

-- how a value goes wrong that is the receiver of an operator which it hasn't
abbrev pub receiver_fault : Value → Kind
receiver_fault Null = NullMember
receiver_fault (Integer n) = NoMember
receiver_fault (Boolean b) = NoMember

-- a run that isn't over stands at a branch, whose condition has this value
pub record Decides (p : Program) (s : State) (v : Value) : Type 0 where
  pub going : s.end ≡ None
  pub on : Operand
  pub when_true : PointId
  pub when_false : PointId
  pub branch : term_of p s ≡ Branch on when_true when_false
  pub condition : value_of s.running.slots on ≡ Some v

-- a slot of the type int
abbrev number_slot : SlotId
number_slot = record { 0 = 0 }

-- a slot of the type bool
abbrev truth_slot : SlotId
truth_slot = record { 0 = 1 }

abbrev one : Operand
one = Constant (Integer (pos 1))

abbrev at : ℕ → PointId
at k = record { 0 = k }

-- terms, from the entry on, of which the last goes wrong in this way
abbrev pub bad_terms : Kind → List Term
bad_terms ReadUnassignedLocal = Output (Slot number_slot) (at 1) ∷ []
bad_terms NullMember = Add number_slot (Constant Null) one (at 1) ∷ []
bad_terms NoMember = Less truth_slot (Constant (Boolean true)) one (at 1) ∷ []
bad_terms NullStore = Initialize number_slot (Constant Null) (at 1) ∷ []
bad_terms BadStore = Initialize truth_slot one (at 1) ∷ []
bad_terms BadArgument = Add number_slot one (Constant Null) (at 1) ∷ []
bad_terms NotBool = Initialize number_slot one (at 1) ∷ Branch (Slot number_slot) (at 2) (at 2) ∷ []

-- a point with this term
abbrev point_of : Term → Point
point_of term = record { function = record { 0 = 0 }; site = None; facts = record { reachable = true; listed = [] }; term = term }

-- the program of these terms
abbrev pub bad_program : FormedTable → Kind → Program
bad_program rows kind = record {
  rows = rows;
  functions = record { slots = int ∷ bool ∷ []; entry = at 0 } ∷ [];
  points = map point_of (bad_terms kind);
  main = record { 0 = 0 };
}

-- how many steps it takes until it goes wrong
abbrev pub bad_steps : Kind → ℕ
bad_steps kind = length (bad_terms kind)
