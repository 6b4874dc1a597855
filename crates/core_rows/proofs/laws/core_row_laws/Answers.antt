use Rattle.std.proofs.Common.{◌≡◌, Bool, true, false, ap, ◌∙◌}
use Rattle.dart_types.specs.Heads.{object}
use Rattle.dart_types.specs.Kept.{forms_too_large}
use Rattle.dart_types.specs.SubTest.{sub}
use Rattle.dart_types.specs.Tables.{Table}
use Rattle.dart_types.specs.Ty.{Ty, interface, no_more}
use Rattle.dart_types.specs.declared.ids.TheConstants.{INT, BOOL}
use Rattle.core_rows.specs.CoreTable.{core_table}
use Rattle.core_rows.proofs.NothingOut.{none_too_large, integers_apart, truths_apart, integers_below, truths_below}
use Rattle.core_rows.proofs.laws.core_row_laws.Goals as goal

no_truth : (b : Bool) → b ≡ false → b ≡ true → ⊥
no_truth b f t = cc

-- a test that comes out so in the table comes out so in rows that are the table
there : (table : Table) (s t : Ty) (b : Bool) → table ≡ core_table → sub core_table s t ≡ b → sub table s t ≡ b
there table s t b is e = ap (λ (k : Table). sub k s t) is ∙ e

pub returns-clause-nothing_out : goal.returns-clause-nothing_out
returns-clause-nothing_out c =
    let table = c.args._rows.now.table in
    c.kept_laws.ensures.nothing_out.1 (λ class forms. no_truth (forms_too_large table class) (ap (λ (k : Table). forms_too_large k class) c.requires ∙ none_too_large class) ((c.kept_laws.ensures.told class).1 forms))

pub returns-clause-integers_apart : goal.returns-clause-integers_apart
returns-clause-integers_apart c = there c.args._rows.now.table (interface INT no_more) (interface BOOL no_more) false c.requires integers_apart

pub returns-clause-truths_apart : goal.returns-clause-truths_apart
returns-clause-truths_apart c = there c.args._rows.now.table (interface BOOL no_more) (interface INT no_more) false c.requires truths_apart

pub returns-clause-integers_below : goal.returns-clause-integers_below
returns-clause-integers_below c = there c.args._rows.now.table (interface INT no_more) object true c.requires integers_below

pub returns-clause-truths_below : goal.returns-clause-truths_below
returns-clause-truths_below c = there c.args._rows.now.table (interface BOOL no_more) object true c.requires truths_below
