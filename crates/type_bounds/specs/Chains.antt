-- Chains of variables, of which each is the bound of the one before, with or without `?`.
use Rattle.std.specs.Prelude.{◌≡◌, Bool, true, false, Some, ◌⊎◌}
use Rattle.dart_types.specs.Ty.{Ty, variable, nullable}
use Rattle.dart_types.specs.Normal.{nullable_of}
use Rattle.dart_types.specs.Sub.{Sub}
use Rattle.dart_types.specs.Tables.{Table, bound_of}
use Rattle.dart_types.specs.declared.ids.VarId.{VarId}

-- a chain of variables leads from one type to another, with a mark where a bound on the way has a `?`; t is a subtype of no bound on the way, and nothing that a `?` is taken from is a subtype of t
pub data LeadsTo (table : Table) (t : Ty) : (first : Ty) → (marked : Bool) → (last : Ty) → Type 0 where
  ends : {s : Ty} → LeadsTo table t s false s
  goes_on : {x y : VarId} {m : Bool} {last : Ty} → bound_of table x ≡ Some (variable y) → (Sub table t (variable y) → ⊥) → LeadsTo table t (variable y) m last → LeadsTo table t (variable x) m last
  goes_on_marked : {x y : VarId} {m : Bool} {last : Ty} → bound_of table x ≡ Some (nullable (variable y)) → (Sub table t (nullable (variable y)) → ⊥) → (Sub table (variable y) t → ⊥) → LeadsTo table t (variable y) m last →
      LeadsTo table t (variable x) true last

-- a type is a variable, and this variable, with or without `?`, is its bound
abbrev pub IsNext : Table → (s bound : Ty) → Type 0
IsNext table s bound = (x : VarId) × (y : VarId) × (s ≡ variable x) × (bound_of table x ≡ Some bound) × ((bound ≡ variable y) ⊎ (bound ≡ nullable (variable y)))

-- a type, with `?` where it is marked
abbrev pub marked_by : Bool → Ty → Ty
marked_by false t = t
marked_by true t = nullable_of t
