use Rattle.std.proofs.Common.{sym}
use Rattle.dart_types.proofs.TooLarge.{none_told, told_by, if_ok}
use Rattle.dart_types.proofs.too_large.is_told.Goals as goal

pub returns-in-None : goal.returns-in-None
returns-in-None c = none_told c.args.rows.now.table c.args.rows.now.formed c.args.class (sym c.in-None.ensures)

pub returns-in-Some : goal.returns-in-Some
returns-in-Some c =
    if_ok c.forms_too_large_by.result c.forms_too_large_by.ensures (λ b h. told_by c.args.rows.now.table c.args.rows.now.formed c.args.class c.in-Some.row.now (sym c.in-Some.ensures) b h)
