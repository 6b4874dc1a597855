-- Well-formed rows as one value.
use Rattle.std.specs.Prelude.{List, refl}
use Rattle.std.specs.Coded.{Coded, code_by, coded×, coded_list}
use base.Stored.{coded_sub}
use Rattle.dart_types.specs.Tables.{Table}
use Rattle.dart_types.specs.WellFormed.{IsWellFormed}
use Rattle.dart_types.specs.FormedProp.{IsWellFormed-prop}
use Rattle.dart_types.specs.declared.class_rows.ClassRow.{ClassRow}
use Rattle.dart_types.specs.declared.class_rows.VarRow.{VarRow}
use Rattle.dart_types.specs.contracts.class_rows.ClassRow as class_row
use Rattle.dart_types.specs.contracts.class_rows.VarRow as var_row

-- rows with the proof that they are well formed, so that whoever has rows has that
pub record FormedTable : Type 0 where
  pub table : Table
  pub formed : IsWellFormed table

-- how rows are stored
abbrev pub table_code : Coded Table
table_code =
    code_by (List ClassRow × List VarRow) (coded× (coded_list class_row.the_row.coded) (coded_list var_row.the_row.coded)) (λ t. (t.classes, t.vars)) (λ p. record { classes = p.0; vars = p.1 }) (λ _. refl)

-- how well-formed rows are stored: the proof takes no room
abbrev pub formed_table_code : Coded FormedTable
formed_table_code =
    code_by ((t : Table) × IsWellFormed t) (coded_sub table_code IsWellFormed IsWellFormed-prop) (λ f. (f.table, f.formed)) (λ p. record { table = p.0; formed = p.1 }) (λ _. refl)
