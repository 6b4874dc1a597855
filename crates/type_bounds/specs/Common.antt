-- The superinterfaces that two interfaces have in common.
use Rattle.std.specs.Prelude.{◌≡◌, ◌<◌, Some, length}
use Rattle.dart_types.specs.Ty.{Ty, Types, count}
use Rattle.dart_types.specs.Normal.{normal}
use Rattle.dart_types.specs.Substitution.{put, by_params}
use Rattle.dart_types.specs.Superinterfaces.{Keeps}
use Rattle.dart_types.specs.Tables.{Table, class_of, head_depth}
use Rattle.dart_types.specs.declared.ids.ClassId.{ClassId}
use Rattle.dart_types.specs.declared.class_rows.ClassRow.{ClassRow}

-- a type, in normal form, is a superinterface of a class with these arguments: one that the class, which has as many parameters, keeps, with the arguments put in
pub record IsAbove (table : Table) (c : ClassId) (ts : Types) (u : Ty) : Type 0 where
  pub row : ClassRow
  pub row_is : class_of table c ≡ Some row
  pub counted : count ts ≡ length row.params
  pub over : Ty
  pub superinterface : Keeps table c over
  pub is : u ≡ normal (put (by_params row.params ts) over)

-- a superinterface of both
abbrev pub IsCommon : Table → ClassId → Types → ClassId → Types → Ty → Type 0
IsCommon table c ss d ts u = IsAbove table c ss u × IsAbove table d ts u

-- no other superinterface of both is as far from Object
abbrev pub IsAlone : Table → ClassId → Types → ClassId → Types → Ty → Type 0
IsAlone table c ss d ts u = (v : Ty) → IsCommon table c ss d ts v → head_depth table v ≡ head_depth table u → v ≡ u

-- The superinterface of both that is farthest from Object among those that are the only ones so far from it.
pub record IsDeepest (table : Table) (c : ClassId) (ss : Types) (d : ClassId) (ts : Types) (u : Ty) : Type 0 where
  pub common : IsCommon table c ss d ts u
  pub alone : IsAlone table c ss d ts u
  pub deepest : (v : Ty) → IsCommon table c ss d ts v → head_depth table u < head_depth table v → IsAlone table c ss d ts v → ⊥
