-- What the rules read of classes and type variables.
use Rattle.std.specs.Prelude.{ℕ, ◌+◌, max, List, [], ◌∷◌, Option, find}
use Rattle.std.specs.Option.{option_map, option_map_or}
use Rattle.dart_types.specs.Ty.{Ty, invalid, never, void, null, interface, function, variable, promoted, nullable}
use Rattle.dart_types.specs.Same.{same_class, same_var}
use Rattle.dart_types.specs.declared.ids.ClassId.{ClassId}
use Rattle.dart_types.specs.declared.ids.VarId.{VarId}
use Rattle.dart_types.specs.declared.class_rows.ClassRow.{ClassRow}
use Rattle.dart_types.specs.declared.class_rows.VarRow.{VarRow}

-- a row for each class, and one for each type variable
pub record Table : Type 0 where
  pub classes : List ClassRow
  pub vars : List VarRow

-- the row of a class, if it has one
abbrev pub class_of : Table → ClassId → Option ClassRow
class_of table c = find (λ row. same_class row.id c) table.classes

-- the bound of a type variable, if it has a row
abbrev pub bound_of : Table → VarId → Option Ty
bound_of table x = option_map (λ row. row.bound) (find (λ row. same_var row.var x) table.vars)

-- the longest way from a class up to Object, as its row says; 0 without a row
abbrev pub depth_of : Table → ClassId → ℕ
depth_of table c = option_map_or (λ row. row.depth) (class_of table c) 0

-- the longest way up from a type: that of an interface's class
abbrev pub head_depth : Table → Ty → ℕ
head_depth table invalid = 0
head_depth table never = 0
head_depth table void = 0
head_depth table null = 0
head_depth table (interface c ts) = depth_of table c
head_depth table (function r o n e) = 0
head_depth table (variable x) = 0
head_depth table (promoted x t) = 0
head_depth table (nullable t) = 0

-- the longest way up over one of these direct supertypes
abbrev pub depth_above : Table → List Ty → ℕ
depth_above table [] = 0
depth_above table (v ∷ vs) = max (head_depth table v + 1) (depth_above table vs)
