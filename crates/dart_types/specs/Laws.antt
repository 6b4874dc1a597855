-- The laws of well-formed rows, and of the types over them, that the proofs of crates above go by.
use Rattle.std.specs.Prelude.{◌≡◌, ◌≢◌, ◌≤◌, ◌<◌, ◌+◌, ℕ, true, List, length, Contains, Some}
use Rattle.dart_types.specs.Ty.{Ty, Types, Named, null, interface, function, variable, promoted, nullable, count, join}
use Rattle.dart_types.specs.Same.{same_type}
use Rattle.dart_types.specs.Normal.{normal}
use Rattle.dart_types.specs.Parts.{HasType}
use Rattle.dart_types.specs.Measure.{measure, weight_of, deepness_of, heaviest_of, rank_of}
use Rattle.dart_types.specs.Sub.{Sub, HasNamed, is_required, required_in}
use Rattle.dart_types.specs.SubTest.{sub}
use Rattle.dart_types.specs.Substitution.{put, by_params}
use Rattle.dart_types.specs.Superinterfaces.{IsSuperinterface, Inherits, Keeps, LeavesNothingOut}
use Rattle.dart_types.specs.Kept.{kept_of}
use Rattle.dart_types.specs.Tables.{Table, class_of, bound_of, depth_of, head_depth}
use Rattle.dart_types.specs.WellFormed.{IsSupertype, IsEarlier, IsOver, IsFormedClass, IsWellFormed}
use Rattle.dart_types.specs.declared.ids.ClassId.{ClassId}
use Rattle.dart_types.specs.declared.ids.VarId.{VarId}
use Rattle.dart_types.specs.declared.ids.TheConstants.{NO_LIBRARY}
use Rattle.dart_types.specs.declared.class_rows.ClassRow.{ClassRow}

-- the test of types holds just at equal ones, a list of named parameters requires no more than one that requires each of its names, and types put into a normal form give the normal form that they give put into the type
pub record TypeLaws : Type 0 where
  pub equal_from_same_type : (s t : Ty) → same_type s t ≡ true → s ≡ t
  pub same_type-refl : (t : Ty) → same_type t t ≡ true
  pub required_from : (ts us : Named) → ((m : List ℕ) → is_required ts m ≡ true → is_required us m ≡ true) → required_in ts us ≡ true
  pub normal-put-normal : (σ : VarId → Ty) (t : Ty) → normal (put σ (normal t)) ≡ normal (put σ t)

-- the measure of two types falls from the sides of each rule of subtyping to those of its premises
pub record MeasureLaws (table : Table) : Type 0 where
  pub left_nullable : (s t : Ty) → measure table s t < measure table (nullable s) t
  pub right_nullable : (s t : Ty) → measure table s t < measure table s (nullable t)
  pub left_promoted : (x : VarId) (s t : Ty) → (measure table (variable x) t < measure table (promoted x s) t) × (measure table s t < measure table (promoted x s) t)
  pub bounds : (x : VarId) (b t : Ty) → bound_of table x ≡ Some b → measure table b t < measure table (variable x) t
  pub superinterfaces : (c : ClassId) (ss : Types) (row : ClassRow) (v t : Ty) → class_of table c ≡ Some row → count ss ≡ length row.params → IsSuperinterface table c v → measure table (put (by_params row.params ss) v) t < measure table (interface c ss) t
  pub arguments : (c d : ClassId) (ss ts : Types) (s t : Ty) → HasType ss s → HasType ts t → measure table s t < measure table (interface c ss) (interface d ts)
  pub parameters : (r o r' o' : Types) (n n' : Named) (e e' s t : Ty) → HasType (join r o) s → HasType (join r' o') t → measure table t s < measure table (function r o n e) (function r' o' n' e')
  pub named : (r o r' o' : Types) (n n' : Named) (e e' : Ty) (l m : List ℕ) (s t : Ty) → HasNamed n l s → HasNamed n' m t → measure table t s < measure table (function r o n e) (function r' o' n' e')
  pub results : (r o r' o' : Types) (n n' : Named) (e e' : Ty) → measure table e e' < measure table (function r o n e) (function r' o' n' e')
  pub no_rise : (s s' t : Ty) → heaviest_of table s' ≤ heaviest_of table s → deepness_of table s' ≤ deepness_of table s → rank_of table s' ≡ rank_of table s → measure table s' t ≤ measure table s t

-- what well-formed rows say of classes, bounds, superinterfaces and subtypes
pub record RowLaws (table : Table) : Type 0 where
  pub formed : IsWellFormed table
  pub types : TypeLaws
  pub measures : MeasureLaws table
  -- the row of a class has its id and is well formed; its supertypes are over its parameters and over the rows, and less far from Object
  pub row_id : (c : ClassId) (row : ClassRow) → class_of table c ≡ Some row → row.id ≡ c
  pub formed_class : (c : ClassId) (row : ClassRow) → class_of table c ≡ Some row → IsFormedClass table row
  pub formed_super : (c : ClassId) (row : ClassRow) (v : Ty) → class_of table c ≡ Some row → Contains row.supers v → IsSupertype row.params v × IsOver table v
  pub super_depth : (c : ClassId) (row : ClassRow) (v : Ty) → class_of table c ≡ Some row → Contains row.supers v → head_depth table v + 1 ≤ depth_of table c
  -- a variable with a bound is of a library; its bound holds earlier variables alone, is over the rows, weighs less and is less deep
  pub declared_var : (x : VarId) (b : Ty) → bound_of table x ≡ Some b → x.lib ≢ NO_LIBRARY
  pub formed_bound : (x : VarId) (b : Ty) → bound_of table x ≡ Some b → IsEarlier x b × IsOver table b
  pub bound_weight : (x : VarId) (b : Ty) → bound_of table x ≡ Some b → weight_of table b + 1 ≤ weight_of table (variable x)
  pub bound_deepness : (x : VarId) (b : Ty) → bound_of table x ≡ Some b → deepness_of table b + 1 ≤ deepness_of table (variable x)
  -- a superinterface is an interface over the parameters of the class that has it, with as many arguments as its class has parameters; those of its class are superinterfaces too
  pub superinterface_simple : (c : ClassId) (row : ClassRow) (v : Ty) → class_of table c ≡ Some row → IsSuperinterface table c v → IsSupertype row.params v
  pub superinterface_counted : (c d : ClassId) (ts : Types) (row : ClassRow) → class_of table d ≡ Some row → IsSuperinterface table c (interface d ts) → count ts ≡ length row.params
  pub superinterface_further : (c d : ClassId) (ts : Types) (row : ClassRow) (v : Ty) → class_of table d ≡ Some row → IsSuperinterface table c (interface d ts) → IsSuperinterface table d v → IsSuperinterface table c (put (by_params row.params ts) v)
  -- what a class inherits is a superinterface of it; what it keeps is what is computed, and all superinterfaces where nothing is left out
  pub inherited : (c : ClassId) (v : Ty) → Inherits table c v → IsSuperinterface table c v
  pub all_kept : LeavesNothingOut table → (c : ClassId) (v : Ty) → IsSuperinterface table c v → Keeps table c v
  pub kept_sound : (c : ClassId) (v : Ty) → Contains (kept_of table c) v → Keeps table c v
  pub kept_complete : (c : ClassId) (v : Ty) → Keeps table c v → Contains (kept_of table c) v
  -- a class with arguments is a subtype of each superinterface that it keeps, with the arguments put in, and of the normal form of that
  pub kept_below : (c : ClassId) (ss : Types) (row : ClassRow) (v : Ty) → class_of table c ≡ Some row → count ss ≡ length row.params → Keeps table c v → Sub table (interface c ss) (put (by_params row.params ss) v)
  pub kept_normal_below : (c : ClassId) (ss : Types) (row : ClassRow) (v : Ty) → class_of table c ≡ Some row → count ss ≡ length row.params → Keeps table c v → Sub table (interface c ss) (normal (put (by_params row.params ss) v))
  -- where nothing is left out, subtypes of subtypes are subtypes, and so is a class of what a superinterface of it is a subtype of
  pub sub_transitive : LeavesNothingOut table → (s t u : Ty) → Sub table s t → Sub table t u → Sub table s u
  pub above_superinterface : LeavesNothingOut table → (c : ClassId) (ss : Types) (row : ClassRow) (v t : Ty) → class_of table c ≡ Some row → count ss ≡ length row.params → IsSuperinterface table c v → Sub table (put (by_params row.params ss) v) t → Sub table (interface c ss) t
  -- a type and its normal form are subtypes of each other; Null is a subtype of what a nullable type is
  pub below_normal : (t : Ty) → Sub table t (normal t)
  pub normal_below : (t : Ty) → Sub table (normal t) t
  pub nullable_null : (s t : Ty) → Sub table (nullable s) t → Sub table null t
  -- the test that definitions compute holds exactly where the rules have a derivation
  pub sub_sound : (s t : Ty) → sub table s t ≡ true → Sub table s t
  pub sub_complete : (s t : Ty) → Sub table s t → sub table s t ≡ true

-- more rows change nothing of the smaller ones: neither rows nor bounds, nor for types over them subtypes and superinterfaces, which are over them too, nor which of these are kept
pub record MoreRows (small large : Table) : Type 0 where
  pub classes : (c : ClassId) (row : ClassRow) → class_of small c ≡ Some row → class_of large c ≡ Some row
  pub bounds : (x : VarId) (b : Ty) → bound_of small x ≡ Some b → bound_of large x ≡ Some b
  pub over : (t : Ty) → IsOver small t → IsOver large t
  pub sub_large : (s t : Ty) → Sub small s t → Sub large s t
  pub sub_small : (s t : Ty) → IsOver small s → IsOver small t → Sub large s t → Sub small s t
  pub superinterface_large : (c : ClassId) (v : Ty) → IsSuperinterface small c v → IsSuperinterface large c v
  pub superinterface_small : (c : ClassId) (row : ClassRow) (v : Ty) → class_of small c ≡ Some row → IsSuperinterface large c v → IsSuperinterface small c v
  pub kept_large : (c : ClassId) (v : Ty) → Keeps small c v → Keeps large c v
  pub kept_small : (c : ClassId) (row : ClassRow) (v : Ty) → class_of small c ≡ Some row → Keeps large c v → Keeps small c v
