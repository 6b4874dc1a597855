use Rattle.std.proofs.Common.{sym, subst}
use Rattle.dart_types.specs.FormedTable.{FormedTable}
use Rattle.dart_types.specs.Superinterfaces.{LeavesNothingOut}
use Rattle.rule_tests.proofs.ElaboratedRows.{rows_of_elaborated}
use Rattle.rule_tests.proofs.program_tests.program_of.Goals as goal

-- the program has the rows of the library
pub accept-requires-clause-nothing_out : goal.accept-requires-clause-nothing_out
accept-requires-clause-nothing_out c =
    subst (λ (rows : FormedTable). LeavesNothingOut rows.table) (sym (rows_of_elaborated _ _ _ _ c.in_ok-program.program c.in_ok-program.ensures.program)) c.core_row_laws.ensures.nothing_out
