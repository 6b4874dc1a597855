-- The superinterfaces of two classes with arguments, as they are looked for.
use Rattle.std.specs.Prelude.{ℕ, ◌≡◌, ◌<◌, ◌≤◌, List, length, Option, Some, None, Contains, All}
use Rattle.dart_types.specs.Ty.{Ty, types_of, count}
use Rattle.dart_types.specs.Superinterfaces.{interface_with, AreSuperinterfaces}
use Rattle.dart_types.specs.Tables.{Table, class_of, depth_of}
use Rattle.dart_types.specs.declared.ids.ClassId.{ClassId}
use Rattle.dart_types.specs.declared.class_rows.ClassRow.{ClassRow}
use Rattle.dart_types.specs.declared.superinterfaces.Superinterface.{Superinterface}
use Rattle.type_bounds.specs.declared.superclasses.Above.{Above}
use Rattle.type_bounds.specs.declared.superclasses.Pair.{Pair}

-- the type that a superinterface is where its class has these arguments
abbrev pub type_above : Above → Superinterface → Ty
type_above a s = interface_with a.arguments s

-- the type is one of these superinterfaces
abbrev pub IsIn : Above → Ty → Type 0
IsIn a u = (s : Superinterface) × Contains a.superinterfaces.now s × (type_above a s ≡ u)

-- they are those of the class with these arguments, which has a row with as many parameters
pub record AreOf (table : Table) (c : ClassId) (ts : List Ty) (a : Above) : Type 0 where
  pub row : ClassRow
  pub row_is : class_of table c ≡ Some row
  pub params : a.arguments.params.now ≡ row.params
  pub args : a.arguments.args.now ≡ ts
  pub counted : count (types_of ts) ≡ length row.params
  pub list : AreSuperinterfaces table c a.superinterfaces.now

-- a superinterface of the left class is one of the right class too
abbrev pub IsShared : Pair → Superinterface → Type 0
IsShared p s = IsIn p.right (type_above p.left s)

-- the longest way from a superinterface up to Object
abbrev pub depth_in : Pair → Superinterface → ℕ
depth_in p s = depth_of p.rows.now.table s.class

-- the depth is less than the limit, if there is one
abbrev pub IsUnder : Option ℕ → ℕ → Type 0
IsUnder None depth = Unit {0}
IsUnder (Some limit) depth = depth < limit

-- no superinterface of both is under the limit
abbrev pub HasNoneUnder : Pair → Option ℕ → Type 0
HasNoneUnder p limit = All (λ s. IsShared p s → IsUnder limit (depth_in p s) → ⊥) p.left.superinterfaces.now

-- a superinterface of both is under the limit, and no other such one is farther from Object
pub record IsTopUnder (p : Pair) (limit : Option ℕ) (s : Superinterface) : Type 0 where
  pub stands : Contains p.left.superinterfaces.now s
  pub shared : IsShared p s
  pub under : IsUnder limit (depth_in p s)
  pub top : All (λ t. IsShared p t → IsUnder limit (depth_in p t) → depth_in p t ≤ depth_in p s) p.left.superinterfaces.now

-- the second superinterface is the same type as the first, if it is one of both and as far from Object
abbrev pub AgreesWith : Pair → (s t : Superinterface) → Type 0
AgreesWith p s t = IsShared p t → depth_in p t ≡ depth_in p s → type_above p.left t ≡ type_above p.left s

-- the superinterfaces of both that are as far from Object are the same type
abbrev pub IsAloneIn : Pair → Superinterface → Type 0
IsAloneIn p s = All (AgreesWith p s) p.left.superinterfaces.now

-- no superinterface of both is alone
abbrev pub HasNoneAlone : Pair → Type 0
HasNoneAlone p = All (λ s. IsShared p s → IsAloneIn p s → ⊥) p.left.superinterfaces.now

-- a superinterface of both is alone, and none that is farther from Object is
pub record IsDeepestIn (p : Pair) (s : Superinterface) : Type 0 where
  pub stands : Contains p.left.superinterfaces.now s
  pub shared : IsShared p s
  pub alone : IsAloneIn p s
  pub deepest : All (λ t. IsShared p t → depth_in p s < depth_in p t → IsAloneIn p t → ⊥) p.left.superinterfaces.now
