-- The laws of bounds over well-formed rows that the proofs of crates above go by.
use Rattle.std.specs.Prelude.{◌≡◌, Contains, IsSome}
use Rattle.dart_types.specs.Ty.{Ty, Types, interface, no_more}
use Rattle.dart_types.specs.Laws.{RowLaws, MoreRows}
use Rattle.dart_types.specs.Normal.{normal}
use Rattle.dart_types.specs.Sub.{Sub}
use Rattle.dart_types.specs.SubTest.{sub}
use Rattle.dart_types.specs.Substitution.{put}
use Rattle.dart_types.specs.Tables.{Table, class_of, bound_of}
use Rattle.dart_types.specs.WellFormed.{HasArguments, IsOver, AreOver}
use Rattle.dart_types.specs.declared.ids.ClassId.{ClassId}
use Rattle.dart_types.specs.declared.ids.VarId.{VarId}
use Rattle.dart_types.specs.declared.ids.TheConstants.{FUNCTION}
use Rattle.type_bounds.specs.Bounds.{Upper, Lower}
use Rattle.type_bounds.specs.BoundsOf.{upper_of, lower_of}
use Rattle.type_bounds.specs.Common.{IsAbove}
use Rattle.type_bounds.specs.CommonOf.{above_of}
use Rattle.type_bounds.specs.NonNull.{non_null_of}

-- beside what the rows say: the bounds that are computed are those of the tables, which have no others; so are superinterfaces with arguments put in; and a type without null is a subtype of the type
pub record BoundLaws (table : Table) : Type 0 where
  pub rows : RowLaws table
  pub upper_holds : (s t : Ty) → Upper table s t (upper_of table s t)
  pub lower_holds : (s t : Ty) → Lower table s t (lower_of table s t)
  pub one_upper : (s t u v : Ty) → Upper table s t u → Upper table s t v → u ≡ v
  pub one_lower : (s t u v : Ty) → Lower table s t u → Lower table s t v → u ≡ v
  pub above_sound : (c : ClassId) (ts : Types) (u : Ty) → Contains (above_of table c ts) u → IsAbove table c ts u
  pub above_complete : (c : ClassId) (ts : Types) (u : Ty) → IsAbove table c ts u → Contains (above_of table c ts) u
  pub non_null_below : (t : Ty) → Sub table (non_null_of table t) t

-- more rows leave superinterfaces with arguments put in, and bounds, of types over the smaller ones as they are; they are over the smaller rows too, bounds where these have `Function`, and so are normal forms and types with others put in
pub record MoreBounds (small large : Table) : Type 0 where
  pub rows : MoreRows small large
  pub same_sub : (s t : Ty) → IsOver small s → IsOver small t → sub small s t ≡ sub large s t
  pub above_large : (c : ClassId) (ts : Types) (u : Ty) → IsAbove small c ts u → IsAbove large c ts u
  pub above_small : (c : ClassId) (ts : Types) (u : Ty) → HasArguments (class_of small c) ts → IsAbove large c ts u → IsAbove small c ts u
  pub above_over : (c : ClassId) (ts : Types) (u : Ty) → AreOver small ts → IsAbove small c ts u → IsOver small u
  pub upper_large : (s t u : Ty) → IsOver small s → IsOver small t → Upper small s t u → Upper large s t u
  pub lower_large : (s t u : Ty) → IsOver small s → IsOver small t → Lower small s t u → Lower large s t u
  pub upper_over : IsOver small (interface FUNCTION no_more) → (s t u : Ty) → IsOver small s → IsOver small t → Upper small s t u → IsOver small u
  pub lower_over : IsOver small (interface FUNCTION no_more) → (s t u : Ty) → IsOver small s → IsOver small t → Lower small s t u → IsOver small u
  pub normal_over : (t : Ty) → IsOver small t → IsOver small (normal t)
  pub put_over : (σ : VarId → Ty) → ((x : VarId) → IsSome (bound_of small x) → IsOver small (σ x)) → (t : Ty) → IsOver small t → IsOver small (put σ t)
