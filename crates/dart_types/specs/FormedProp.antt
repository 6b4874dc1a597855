-- Rows are well formed in one way at most, so a value may hold the proof that they are.
use Rattle.std.specs.Prelude.{◌≡◌, ℕ, Bool, true, List, Option, Some, None}
use Rattle.std.specs.Coded.{Coded-set, coded_list, coded_ℕ, coded_bool, ×_prop, Unit-prop, le_prop}
use Rattle.dart_types.specs.Ty.{Ty, Types, Named, invalid, never, void, null, interface, function, variable, promoted, nullable, no_more, more, no_named, more_named}
use Rattle.dart_types.specs.TyCode.{type_code}
use Rattle.dart_types.specs.IdCode.{var_code}
use Rattle.dart_types.specs.Tables.{Table, class_of}
use Rattle.dart_types.specs.WellFormed.{is_among, IsSimple, AreSimple, IsSupertype, IsEarlier, AreEarlier, AreEarlierNamed, HasArguments, IsOver, AreOver, AreOverNamed, IsFormedClass, IsFormedVar, IsWellFormed}
use Rattle.dart_types.specs.declared.ids.VarId.{VarId}
use Rattle.dart_types.specs.declared.class_rows.ClassRow.{ClassRow}
use Rattle.dart_types.specs.declared.class_rows.VarRow.{VarRow}

no_prop : IsProp ⊥
no_prop a b = absurd a

true_prop : (b : Bool) → IsProp (b ≡ true)
true_prop b = Coded-set coded_bool b true

nat_prop : (m n : ℕ) → IsProp (m ≡ n)
nat_prop m n = Coded-set coded_ℕ m n

types_prop : (ss ts : List Ty) → IsProp (ss ≡ ts)
types_prop ss ts = Coded-set (coded_list type_code) ss ts

vars_prop : (xs ys : List VarId) → IsProp (xs ≡ ys)
vars_prop xs ys = Coded-set (coded_list var_code) xs ys

mutual
  IsSimple-prop : (vars : List VarId) (t : Ty) → IsProp (IsSimple vars t)
  IsSimple-prop vars invalid = Unit-prop
  IsSimple-prop vars never = Unit-prop
  IsSimple-prop vars void = Unit-prop
  IsSimple-prop vars null = Unit-prop
  IsSimple-prop vars (interface c ts) = AreSimple-prop vars ts
  IsSimple-prop vars (function r o n e) = no_prop
  IsSimple-prop vars (variable x) = true_prop (is_among vars x)
  IsSimple-prop vars (promoted x t) = no_prop
  IsSimple-prop vars (nullable t) = IsSimple-prop vars t

  AreSimple-prop : (vars : List VarId) (ts : Types) → IsProp (AreSimple vars ts)
  AreSimple-prop vars no_more = Unit-prop
  AreSimple-prop vars (more t ts) = ×_prop (IsSimple-prop vars t) (AreSimple-prop vars ts)

IsSupertype-prop : (params : List VarId) (t : Ty) → IsProp (IsSupertype params t)
IsSupertype-prop params invalid = no_prop
IsSupertype-prop params never = no_prop
IsSupertype-prop params void = no_prop
IsSupertype-prop params null = no_prop
IsSupertype-prop params (interface c ts) = AreSimple-prop params ts
IsSupertype-prop params (function r o n e) = no_prop
IsSupertype-prop params (variable x) = no_prop
IsSupertype-prop params (promoted x t) = no_prop
IsSupertype-prop params (nullable t) = no_prop

mutual
  IsEarlier-prop : (x : VarId) (t : Ty) → IsProp (IsEarlier x t)
  IsEarlier-prop x invalid = Unit-prop
  IsEarlier-prop x never = Unit-prop
  IsEarlier-prop x void = Unit-prop
  IsEarlier-prop x null = Unit-prop
  IsEarlier-prop x (interface c ts) = AreEarlier-prop x ts
  IsEarlier-prop x (function r o n e) = hlevel (AreEarlier-prop x r, AreEarlier-prop x o, AreEarlierNamed-prop x n, IsEarlier-prop x e)
  IsEarlier-prop x (variable y) = ×_prop (nat_prop _ _) le_prop
  IsEarlier-prop x (promoted y t) = no_prop
  IsEarlier-prop x (nullable t) = IsEarlier-prop x t

  AreEarlier-prop : (x : VarId) (ts : Types) → IsProp (AreEarlier x ts)
  AreEarlier-prop x no_more = Unit-prop
  AreEarlier-prop x (more t ts) = ×_prop (IsEarlier-prop x t) (AreEarlier-prop x ts)

  AreEarlierNamed-prop : (x : VarId) (ts : Named) → IsProp (AreEarlierNamed x ts)
  AreEarlierNamed-prop x no_named = Unit-prop
  AreEarlierNamed-prop x (more_named n r t ts) = ×_prop (IsEarlier-prop x t) (AreEarlierNamed-prop x ts)

HasArguments-prop : (row : Option ClassRow) (ts : Types) → IsProp (HasArguments row ts)
HasArguments-prop None ts = no_prop
HasArguments-prop (Some row) ts = nat_prop _ _

mutual
  IsOver-prop : (table : Table) (t : Ty) → IsProp (IsOver table t)
  IsOver-prop table invalid = Unit-prop
  IsOver-prop table never = Unit-prop
  IsOver-prop table void = Unit-prop
  IsOver-prop table null = Unit-prop
  IsOver-prop table (interface c ts) = ×_prop (HasArguments-prop (class_of table c) ts) (AreOver-prop table ts)
  IsOver-prop table (function r o n e) = hlevel (AreOver-prop table r, AreOver-prop table o, AreOverNamed-prop table n, IsOver-prop table e)
  IsOver-prop table (variable x) = true_prop _
  IsOver-prop table (promoted x t) = ×_prop (true_prop _) (IsOver-prop table t)
  IsOver-prop table (nullable t) = IsOver-prop table t

  AreOver-prop : (table : Table) (ts : Types) → IsProp (AreOver table ts)
  AreOver-prop table no_more = Unit-prop
  AreOver-prop table (more t ts) = ×_prop (IsOver-prop table t) (AreOver-prop table ts)

  AreOverNamed-prop : (table : Table) (ts : Named) → IsProp (AreOverNamed table ts)
  AreOverNamed-prop table no_named = Unit-prop
  AreOverNamed-prop table (more_named n r t ts) = ×_prop (IsOver-prop table t) (AreOverNamed-prop table ts)

IsFormedClass-prop : (table : Table) (row : ClassRow) → IsProp (IsFormedClass table row)
IsFormedClass-prop table row = hlevel (types_prop, vars_prop, no_prop, IsSupertype-prop row.params, IsOver-prop table, nat_prop)

IsFormedVar-prop : (table : Table) (row : VarRow) → IsProp (IsFormedVar table row)
IsFormedVar-prop table row = hlevel (no_prop, IsEarlier-prop row.var row.bound, IsOver-prop table row.bound)

pub IsWellFormed-prop : (table : Table) → IsProp (IsWellFormed table)
IsWellFormed-prop table = hlevel (true_prop, IsFormedClass-prop table, IsFormedVar-prop table)
