-- Libraries that are put among those of rows.
use Rattle.std.specs.Prelude.{◌≡◌, ◌⊎◌, true, List, Contains, AllPairs}
use Rattle.dart_types.specs.Tables.{Table}
use Rattle.dart_types.specs.WellFormed.{class_before, var_before, IsWellFormed}
use Rattle.dart_types.specs.Entries.{AreBeside}
use Rattle.dart_types.specs.Libraries.{entries_in, vars_in, table_in, AreClassesApart, AreVarsApart}
use Rattle.dart_types.specs.Unions.{HasClassOf, HasVarOf}
use Rattle.dart_types.specs.declared.class_rows.ClassRow.{ClassRow}
use Rattle.dart_types.specs.declared.class_rows.VarRow.{VarRow}
use Rattle.dart_types.specs.declared.entries.ClassEntry.{ClassEntry}
use Rattle.dart_types.specs.declared.class_libraries.LibraryClasses.{LibraryClasses}
use Rattle.dart_types.specs.declared.var_libraries.LibraryVars.{LibraryVars}

-- the libraries may be put among those of the table: each is like that of the table, where the table has it; and their rows are well formed, with their superinterfaces, among rows that all stand in the table or in them
pub record AreOthers (table : Table) (classes : List LibraryClasses) (vars : List LibraryVars) : Type 0 where
  pub classes_apart : AreClassesApart classes
  pub vars_apart : AreVarsApart vars
  pub classes_in_order : AllPairs (λ (a b : ClassEntry). class_before a.row.id b.row.id ≡ true) (entries_in classes)
  pub vars_in_order : AllPairs (λ (a b : VarRow). var_before a.var b.var ≡ true) (vars_in vars)
  pub classes_agree : (entry : ClassEntry) → Contains (entries_in classes) entry → HasClassOf table entry.row.id.lib → Contains table.classes entry.row
  pub vars_agree : (row : VarRow) → Contains (vars_in vars) row → HasVarOf table row.var.lib → Contains table.vars row
  pub among : Table
  pub formed : IsWellFormed among
  pub beside : AreBeside among (entries_in classes)
  pub class_rows : (entry : ClassEntry) → Contains (entries_in classes) entry → Contains among.classes entry.row
  pub var_rows : (row : VarRow) → Contains (vars_in vars) row → Contains among.vars row
  pub no_other_class : (row : ClassRow) → Contains among.classes row → Contains table.classes row ⊎ Contains (table_in classes vars).classes row
  pub no_other_var : (row : VarRow) → Contains among.vars row → Contains table.vars row ⊎ Contains (vars_in vars) row
