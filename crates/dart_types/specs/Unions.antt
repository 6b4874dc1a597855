-- Rows over others, and rows of several libraries together.
use Rattle.std.specs.Prelude.{◌≡◌, ◌++◌, ◌⊎◌, ◌↔◌, true, Contains, All, AllPairs}
use Rattle.dart_types.specs.Tables.{Table}
use Rattle.dart_types.specs.WellFormed.{class_before, var_before, IsFormedClass, IsFormedVar}
use Rattle.dart_types.specs.declared.ids.LibId.{LibId}
use Rattle.dart_types.specs.declared.class_rows.ClassRow.{ClassRow}
use Rattle.dart_types.specs.declared.class_rows.VarRow.{VarRow}

-- own rows and those below them, as a table to look rows up in
abbrev pub beside : Table → Table → Table
beside below own = record { classes = own.classes ++ below.classes; vars = own.vars ++ below.vars }

-- the library has a class in the table
abbrev pub HasClassOf : Table → LibId → Type 0
HasClassOf table lib = (row : ClassRow) × Contains table.classes row × (row.id.lib ≡ lib)

-- the library has a type variable in the table
abbrev pub HasVarOf : Table → LibId → Type 0
HasVarOf table lib = (row : VarRow) × Contains table.vars row × (row.var.lib ≡ lib)

-- own rows are well formed over those below: in the order of their ids, of libraries that have none below, and each well formed among all
pub record IsFormedOver (below own : Table) : Type 0 where
  pub classes_in_order : AllPairs (λ (a b : ClassRow). class_before a.id b.id ≡ true) own.classes
  pub vars_in_order : AllPairs (λ (a b : VarRow). var_before a.var b.var ≡ true) own.vars
  pub classes_apart : All (λ (row : ClassRow). HasClassOf below row.id.lib → ⊥) own.classes
  pub vars_apart : All (λ (row : VarRow). HasVarOf below row.var.lib → ⊥) own.vars
  pub classes : All (IsFormedClass (beside below own)) own.classes
  pub vars : All (IsFormedVar (beside below own)) own.vars

-- the table has the rows of both, and no others
pub record IsUnion (a b u : Table) : Type 0 where
  pub classes : (row : ClassRow) → Contains u.classes row ↔ (Contains a.classes row ⊎ Contains b.classes row)
  pub vars : (row : VarRow) → Contains u.vars row ↔ (Contains a.vars row ⊎ Contains b.vars row)

-- each row of the smaller table stands in the larger one
pub record Extends (small large : Table) : Type 0 where
  pub classes : (row : ClassRow) → Contains small.classes row → Contains large.classes row
  pub vars : (row : VarRow) → Contains small.vars row → Contains large.vars row

-- the table has the rows of some libraries of another, and of each of these all
pub record IsView (table whole : Table) : Type 0 where
  pub within : Extends table whole
  pub classes : (row : ClassRow) → Contains whole.classes row → HasClassOf table row.id.lib → Contains table.classes row
  pub vars : (row : VarRow) → Contains whole.vars row → HasVarOf table row.var.lib → Contains table.vars row

-- both are views of one table
pub record AreViewsOfOne (a b : Table) : Type 0 where
  pub whole : Table
  pub left : IsView a whole
  pub right : IsView b whole
