-- The values of a run, and their types.
use Rattle.std.specs.Prelude.{ℕ, Bool, slice_index_or}
use Rattle.dart_types.specs.Ty.{Ty, invalid, null, interface, no_more}
use Rattle.dart_types.specs.Tables.{Table}
use Rattle.dart_types.specs.SubTest.{sub}
use Rattle.dart_types.specs.declared.ids.TheConstants.{INT, BOOL}
use Rattle.core_ir.specs.declared.values.Value.{Value}
use Rattle.core_ir.specs.declared.values.Value.TheVariants.{Null, Integer, Boolean}
use Rattle.core_ir.specs.Program.{Function}

-- the types `int` and `bool`
abbrev pub int : Ty
int = interface INT no_more

abbrev pub bool : Ty
bool = interface BOOL no_more

-- the objects of a run: so far no value is one
pub data Heap : Type 0 where
  no_objects : Heap

-- the type arguments of a frame: so far no function has type parameters
pub data Environment : Type 0 where
  no_arguments : Environment

-- the run-time type of a value, over the objects
abbrev pub type_of : Heap → Value → Ty
type_of heap Null = null
type_of heap (Integer n) = int
type_of heap (Boolean b) = bool

-- a type with the type arguments of a frame put in
abbrev pub closed : Environment → Ty → Ty
closed no_arguments t = t

-- whether a value has a type, under the type arguments of a frame: its run-time type is a subtype of it
abbrev pub has : Table → Heap → Environment → Value → Ty → Bool
has table heap env v t = sub table (type_of heap v) (closed env t)

-- the declared type of the slot with the number i
abbrev pub declared_at : Function → ℕ → Ty
declared_at g i = slice_index_or g.slots i invalid
