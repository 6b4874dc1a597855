-- Rows as the code keeps them.
use Rattle.std.specs.Prelude.{◌≡◌, true, List, map, Some, All, AllPairs}
use Rattle.dart_types.specs.Tables.{Table, class_of}
use Rattle.dart_types.specs.WellFormed.{class_before, IsWellFormed}
use Rattle.dart_types.specs.Joined.{joined}
use Rattle.dart_types.specs.Superinterfaces.{AreSuperinterfaces}
use Rattle.dart_types.specs.declared.ids.ClassId.{ClassId}
use Rattle.dart_types.specs.declared.entries.ClassEntry.{ClassEntry}
use Rattle.dart_types.specs.declared.class_rows.ClassRow.{ClassRow}
use Rattle.dart_types.specs.declared.class_rows.VarRow.{VarRow}

-- the rows, without the lists of superinterfaces beside them
abbrev pub table_of : List ClassEntry → List VarRow → Table
table_of entries vars = record { classes = map (λ entry. entry.row) entries; vars = vars }

-- own rows among those below
abbrev pub among : Table → List ClassEntry → List VarRow → Table
among below entries vars = joined below (table_of entries vars)

-- own rows, in the order of their ids, are well formed among those below
pub record AreAmong (below own : Table) : Type 0 where
  pub in_order : AllPairs (λ (a b : ClassRow). class_before a.id b.id ≡ true) own.classes
  pub formed : IsWellFormed (joined below own)

-- beside each of these classes stand its superinterfaces
abbrev pub AreBeside : Table → List ClassEntry → Type 0
AreBeside table entries = All (λ entry. AreSuperinterfaces table entry.row.id entry.superinterfaces.items) entries

-- beside each class stand its superinterfaces
abbrev pub HaveSuperinterfaces : List ClassEntry → List VarRow → Type 0
HaveSuperinterfaces entries vars = AreBeside (table_of entries vars) entries

-- the entry is that of the class: its row, and its superinterfaces beside it
abbrev pub IsEntry : Table → ClassId → ClassEntry → Type 0
IsEntry table c entry = (class_of table c ≡ Some entry.row) × AreSuperinterfaces table c entry.superinterfaces.items
