-- Well-formed rows.
use Rattle.std.specs.Prelude.{◌≡◌, ◌≢◌, ◌<◌, ◌&&◌, ◌||◌, nat_eq, nat_lt, Bool, true, List, [], ◌∷◌, length, Option, Some, None, All, AllPairs, IsSome}
use Rattle.std.specs.List.{list_any}
use Rattle.dart_types.specs.Ty.{Ty, Types, Named, invalid, never, void, null, interface, function, variable, promoted, nullable, no_more, more, no_named, more_named, count}
use Rattle.dart_types.specs.Same.{same_var}
use Rattle.dart_types.specs.Heads.{object}
use Rattle.dart_types.specs.Tables.{Table, class_of, bound_of, depth_above}
use Rattle.dart_types.specs.declared.ids.ClassId.{ClassId}
use Rattle.dart_types.specs.declared.ids.VarId.{VarId}
use Rattle.dart_types.specs.declared.ids.TheConstants.{OBJECT, FUNCTION, NO_LIBRARY}
use Rattle.dart_types.specs.declared.class_rows.ClassRow.{ClassRow}
use Rattle.dart_types.specs.declared.class_rows.VarRow.{VarRow}

-- whether a variable is one of these
abbrev pub is_among : List VarId → VarId → Bool
is_among vars x = list_any (λ y. same_var y x) vars

abbrev mutual
  -- the type holds no other variables than these, no function type and no `X & U`
  pub IsSimple : List VarId → Ty → Type 0
  IsSimple vars invalid = Unit {0}
  IsSimple vars never = Unit {0}
  IsSimple vars void = Unit {0}
  IsSimple vars null = Unit {0}
  IsSimple vars (interface c ts) = AreSimple vars ts
  IsSimple vars (function r o n e) = ⊥
  IsSimple vars (variable x) = is_among vars x ≡ true
  IsSimple vars (promoted x t) = ⊥
  IsSimple vars (nullable t) = IsSimple vars t

  -- so do the types of a list
  pub AreSimple : List VarId → Types → Type 0
  AreSimple vars no_more = Unit {0}
  AreSimple vars (more t ts) = IsSimple vars t × AreSimple vars ts

-- a direct supertype is an interface over the parameters of its class, whose arguments hold no function type and no `X & U`
abbrev pub IsSupertype : List VarId → Ty → Type 0
IsSupertype params invalid = ⊥
IsSupertype params never = ⊥
IsSupertype params void = ⊥
IsSupertype params null = ⊥
IsSupertype params (interface c ts) = AreSimple params ts
IsSupertype params (function r o n e) = ⊥
IsSupertype params (variable x) = ⊥
IsSupertype params (promoted x t) = ⊥
IsSupertype params (nullable t) = ⊥

-- y is a type parameter of the same library that is declared before x
abbrev pub IsEarlierVar : VarId → VarId → Type 0
IsEarlierVar x y = (y.lib.0 ≡ x.lib.0) × (y.index < x.index)

abbrev mutual
  -- the type holds no variables but earlier ones than x, and no `X & U`
  pub IsEarlier : VarId → Ty → Type 0
  IsEarlier x invalid = Unit {0}
  IsEarlier x never = Unit {0}
  IsEarlier x void = Unit {0}
  IsEarlier x null = Unit {0}
  IsEarlier x (interface c ts) = AreEarlier x ts
  IsEarlier x (function r o n e) = AreEarlier x r × AreEarlier x o × AreEarlierNamed x n × IsEarlier x e
  IsEarlier x (variable y) = IsEarlierVar x y
  IsEarlier x (promoted y t) = ⊥
  IsEarlier x (nullable t) = IsEarlier x t

  -- so do the types of a list
  pub AreEarlier : VarId → Types → Type 0
  AreEarlier x no_more = Unit {0}
  AreEarlier x (more t ts) = IsEarlier x t × AreEarlier x ts

  -- so do the types of named parameters
  pub AreEarlierNamed : VarId → Named → Type 0
  AreEarlierNamed x no_named = Unit {0}
  AreEarlierNamed x (more_named n r t ts) = IsEarlier x t × AreEarlierNamed x ts

-- the class has a row with as many parameters as there are arguments
abbrev pub HasArguments : Option ClassRow → Types → Type 0
HasArguments None ts = ⊥
HasArguments (Some row) ts = count ts ≡ length row.params

abbrev mutual
  -- each class that the type names has a row with as many parameters as it has arguments there, and each variable in it has a bound
  pub IsOver : Table → Ty → Type 0
  IsOver table invalid = Unit {0}
  IsOver table never = Unit {0}
  IsOver table void = Unit {0}
  IsOver table null = Unit {0}
  IsOver table (interface c ts) = HasArguments (class_of table c) ts × AreOver table ts
  IsOver table (function r o n e) = AreOver table r × AreOver table o × AreOverNamed table n × IsOver table e
  IsOver table (variable x) = IsSome (bound_of table x)
  IsOver table (promoted x t) = IsSome (bound_of table x) × IsOver table t
  IsOver table (nullable t) = IsOver table t

  -- so it is with the types of a list
  pub AreOver : Table → Types → Type 0
  AreOver table no_more = Unit {0}
  AreOver table (more t ts) = IsOver table t × AreOver table ts

  -- so it is with the types of named parameters
  pub AreOverNamed : Table → Named → Type 0
  AreOverNamed table no_named = Unit {0}
  AreOverNamed table (more_named n r t ts) = IsOver table t × AreOverNamed table ts

-- the row of a class is well formed among the others
pub record IsFormedClass (table : Table) (row : ClassRow) : Type 0 where
  -- Object has no supertype
  pub object_alone : row.id ≡ OBJECT → row.supers ≡ []
  -- Function has Object alone
  pub function_alone : row.id ≡ FUNCTION → row.supers ≡ object ∷ []
  -- neither has parameters
  pub object_bare : row.id ≡ OBJECT → row.params ≡ []
  pub function_bare : row.id ≡ FUNCTION → row.params ≡ []
  -- each other class has one at least
  pub rooted : row.id ≢ OBJECT → row.supers ≢ []
  pub supertypes : All (IsSupertype row.params) row.supers
  pub over : All (IsOver table) row.supers
  -- supertypes have no cycle: the longest way up is one step longer than over each of them
  pub depth : row.depth ≡ depth_above table row.supers

-- the row of a type variable is well formed among the others
pub record IsFormedVar (table : Table) (row : VarRow) : Type 0 where
  -- a library declares it
  pub declared : row.var.lib ≢ NO_LIBRARY
  pub earlier : IsEarlier row.var row.bound
  pub over : IsOver table row.bound

-- whether the first class stands before the second
abbrev pub class_before : ClassId → ClassId → Bool
class_before c d = nat_lt c.lib.0 d.lib.0 || (nat_eq c.lib.0 d.lib.0 && nat_lt c.index d.index)

-- whether the first variable stands before the second
abbrev pub var_before : VarId → VarId → Bool
var_before x y = nat_lt x.lib.0 y.lib.0 || (nat_eq x.lib.0 y.lib.0 && nat_lt x.index y.index)

-- rows are well formed: in the order of their ids, and each among the others
pub record IsWellFormed (table : Table) : Type 0 where
  pub classes_in_order : AllPairs (λ (a b : ClassRow). class_before a.id b.id ≡ true) table.classes
  pub vars_in_order : AllPairs (λ (a b : VarRow). var_before a.var b.var ≡ true) table.vars
  pub classes : All (IsFormedClass table) table.classes
  pub vars : All (IsFormedVar table) table.vars
