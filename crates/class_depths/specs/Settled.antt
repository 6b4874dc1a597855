-- Rows of declared classes with their depths.
use Rattle.std.specs.Prelude.{◌≡◌, ℕ, List, map, All}
use Rattle.dart_types.specs.Tables.{Table, depth_above}
use Rattle.dart_types.specs.Unions.{beside}
use Rattle.dart_types.specs.declared.class_rows.ClassRow.{ClassRow}
use Rattle.dart_types.specs.declared.class_rows.VarRow.{VarRow}
use Rattle.class_depths.specs.declared.classes.DeclaredClass.{DeclaredClass}

-- what a class row has without its depth
abbrev pub declared_of : ClassRow → DeclaredClass
declared_of row = record { id = row.id; params = row.params; supers = row.supers }

-- the row of a declared class with this depth
abbrev pub row_of : DeclaredClass → ℕ → ClassRow
row_of class depth = record { id = class.id; params = class.params; supers = class.supers; depth = depth }

-- the rows, with these of type variables, and those below, as a table to look rows up in
abbrev pub over : Table → List VarRow → List ClassRow → Table
over below vars rows = beside below (record { classes = rows; vars = vars })

-- the rows are those of the declared classes, in their order, and each has the depth that well-formed rows want: the longest way up over one of its direct supertypes
pub record AreSettled (below : Table) (vars : List VarRow) (declared : List DeclaredClass) (rows : List ClassRow) : Type 0 where
  pub same : map declared_of rows ≡ declared
  pub depths : All (λ row. row.depth ≡ depth_above (over below vars rows) row.supers) rows

-- the rows are those of the declared classes with the depths that fit, and no others are
pub record AreRowsOf (below : Table) (vars : List VarRow) (declared : List DeclaredClass) (rows : List ClassRow) : Type 0 where
  pub settled : AreSettled below vars declared rows
  pub alone : (others : List ClassRow) → AreSettled below vars declared others → others ≡ rows
