use Rattle.std.proofs.Common.{sym, ap, subst, ◌∙◌}
use Rattle.dart_types.specs.FormedTable.{FormedTable}
use Rattle.dart_types.specs.Superinterfaces.{LeavesNothingOut}
use Rattle.core_ir.specs.Program.{Program}
use Rattle.dart_server.proofs.ProgramLemmas.{elaborated_rows}
use Rattle.dart_server.proofs.run.program_of.Goals as goal

pub accept-requires-clause-nothing_out : goal.accept-requires-clause-nothing_out
accept-requires-clause-nothing_out c =
    let checked = c.args.checked.now in
    let rows = ap (λ (p : Program). p.rows) c.in_ok-program.ensures.program ∙ elaborated_rows checked.rows checked.unit.words checked.forms.outside.items c.args.body.now in
    subst (λ (r : FormedTable). LeavesNothingOut r.table) (sym rows) c.core_row_laws.ensures.nothing_out
