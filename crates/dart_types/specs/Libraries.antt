-- Rows by library.
use Rattle.std.specs.Prelude.{◌≡◌, ◌++◌, ◌∷◌, [], true, List}
use Rattle.dart_types.specs.Tables.{Table}
use Rattle.dart_types.specs.WellFormed.{class_before, var_before}
use Rattle.dart_types.specs.Entries.{table_of, HaveSuperinterfaces}
use Rattle.dart_types.specs.Groups.{all_of, AreApart, Appends}
use Rattle.dart_types.specs.declared.class_rows.VarRow.{VarRow}
use Rattle.dart_types.specs.declared.entries.ClassEntry.{ClassEntry}
use Rattle.dart_types.specs.declared.class_libraries.LibraryClasses.{LibraryClasses}
use Rattle.dart_types.specs.declared.var_libraries.LibraryVars.{LibraryVars}

-- the classes of all libraries
abbrev pub entries_in : List LibraryClasses → List ClassEntry
entries_in libraries = all_of (λ l. l.entries.items) libraries

-- the type variables of all libraries
abbrev pub vars_in : List LibraryVars → List VarRow
vars_in libraries = all_of (λ l. l.rows.items) libraries

-- the rows of all libraries
abbrev pub table_in : List LibraryClasses → List LibraryVars → Table
table_in classes vars = table_of (entries_in classes) (vars_in vars)

-- each library stands there once, in the order of the libraries, and has classes of its own
abbrev pub AreClassesApart : List LibraryClasses → Type 0
AreClassesApart libraries = AreApart (λ l. l.lib.0) (λ l. l.entries.items) (λ entry. entry.row.id.lib.0) libraries

-- so it is with type variables
abbrev pub AreVarsApart : List LibraryVars → Type 0
AreVarsApart libraries = AreApart (λ l. l.lib.0) (λ l. l.rows.items) (λ row. row.var.lib.0) libraries

-- one more class at the end
abbrev pub AppendsClass : List LibraryClasses → ClassEntry → List LibraryClasses → Type 0
AppendsClass old entry new =
    Appends (λ l. l.lib.0) (λ l. l.entries.items) (λ e. e.row.id.lib.0) (λ a b. class_before a.row.id b.row.id ≡ true) old entry new

-- one more type variable at the end
abbrev pub AppendsVar : List LibraryVars → VarRow → List LibraryVars → Type 0
AppendsVar old row new =
    Appends (λ l. l.lib.0) (λ l. l.rows.items) (λ r. r.var.lib.0) (λ a b. var_before a.var b.var ≡ true) old row new

-- one more class at the end, in a library of its own
abbrev pub AddsClassAlone : List LibraryClasses → ClassEntry → List LibraryClasses → Type 0
AddsClassAlone old entry new = (l : LibraryClasses) × (new ≡ old ++ l ∷ []) × (l.lib ≡ entry.row.id.lib) × (l.entries.items ≡ entry ∷ [])

-- one more type variable at the end, in a library of its own
abbrev pub AddsVarAlone : List LibraryVars → VarRow → List LibraryVars → Type 0
AddsVarAlone old row new = (l : LibraryVars) × (new ≡ old ++ l ∷ []) × (l.lib ≡ row.var.lib) × (l.rows.items ≡ row ∷ [])

-- what rows keep: the libraries are apart, and beside each class stand its superinterfaces
pub record AreKept (classes : List LibraryClasses) (vars : List LibraryVars) : Type 0 where
  pub classes_apart : AreClassesApart classes
  pub vars_apart : AreVarsApart vars
  pub superinterfaces : HaveSuperinterfaces (entries_in classes) (vars_in vars)
