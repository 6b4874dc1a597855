-- The superinterfaces of a class.
use Rattle.std.specs.Prelude.{◌≡◌, ◌≢◌, ◌<◌, ◌≤◌, List, Contains, AllPairs, Some, false}
use Rattle.dart_types.specs.Ty.{Ty, Types, interface, types_of}
use Rattle.dart_types.specs.Sizes.{size_of}
use Rattle.dart_types.specs.Substitution.{put, by_params}
use Rattle.dart_types.specs.Normal.{normal}
use Rattle.dart_types.specs.Tables.{Table, class_of}
use Rattle.dart_types.specs.WellFormed.{class_before}
use Rattle.dart_types.specs.declared.ids.ClassId.{ClassId}
use Rattle.dart_types.specs.declared.class_rows.ClassRow.{ClassRow}
use Rattle.dart_types.specs.declared.class_arguments.Arguments.{Arguments}
use Rattle.dart_types.specs.declared.superinterfaces.Superinterface.{Superinterface}
use Rattle.dart_types.specs.declared.refusal.TheConstants.{NODE_LIMIT}

-- a type over the parameters of a class is a superinterface of it: a direct supertype, or one of the class of a superinterface, with the arguments put in
pub data IsSuperinterface (table : Table) (c : ClassId) : Ty → Type 0 where
  direct : {row : ClassRow} {v : Ty} → class_of table c ≡ Some row → Contains row.supers v → IsSuperinterface table c v
  further : {d : ClassId} {ts : Types} {row : ClassRow} {v : Ty} → IsSuperinterface table c (interface d ts) → class_of table d ≡ Some row → Contains row.supers v → IsSuperinterface table c (put (by_params row.params ts) v)

-- a class inherits its direct supertypes, and those superinterfaces that the class of one of them keeps, with the arguments put in: those whose normal form has no more nodes than a type may have
pub data Inherits (table : Table) : ClassId → Ty → Type 0 where
  supertype : {c : ClassId} {v : Ty} → (row : ClassRow) → class_of table c ≡ Some row → Contains row.supers v → Inherits table c v
  handed_on : {c d : ClassId} {ts : Types} {v : Ty} → (row above : ClassRow) → class_of table c ≡ Some row → Contains row.supers (interface d ts) → class_of table d ≡ Some above → Inherits table d v → size_of (normal v) ≤ NODE_LIMIT → Inherits table c (put (by_params above.params ts) v)

-- a class keeps what it inherits and what isn't too large
abbrev pub Keeps : Table → ClassId → Ty → Type 0
Keeps table c v = Inherits table c v × (size_of (normal v) ≤ NODE_LIMIT)

-- a class forms a superinterface that is too large: it inherits one
abbrev pub FormsTooLarge : Table → ClassId → Type 0
FormsTooLarge table c = (v : Ty) × Inherits table c v × (NODE_LIMIT < size_of (normal v))

-- nothing is left out: no superinterface of a class has more nodes than a type may have
abbrev pub LeavesNothingOut : Table → Type 0
LeavesNothingOut table = (c : ClassId) (v : Ty) → IsSuperinterface table c v → size_of (normal v) ≤ NODE_LIMIT

-- the type that an entry of a list of superinterfaces stands for
abbrev pub interface_of : Superinterface → Ty
interface_of s = interface s.class (types_of s.args)

-- the type that it stands for where the class that it is of has these arguments, in normal form
abbrev pub interface_with : Arguments → Superinterface → Ty
interface_with a s = normal (put (by_params a.params.now (types_of a.args.now)) (interface_of s))

-- the superinterfaces stand in the order of their classes
abbrev pub AreOrdered : List Superinterface → Type 0
AreOrdered list = AllPairs (λ (a b : Superinterface). class_before b.class a.class ≡ false) list

-- the list has the normal forms of the superinterfaces that a class keeps and no other types, each once, in the order of their classes
pub record AreSuperinterfaces (table : Table) (c : ClassId) (list : List Superinterface) : Type 0 where
  pub every : (v : Ty) → Keeps table c v → (s : Superinterface) × Contains list s × (interface_of s ≡ normal v)
  pub no_other : (s : Superinterface) → Contains list s → (v : Ty) × Keeps table c v × (interface_of s ≡ normal v)
  pub in_order : AreOrdered list
  pub once : AllPairs (λ (a b : Superinterface). a ≢ b) list
