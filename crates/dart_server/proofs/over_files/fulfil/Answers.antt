use Rattle.std.proofs.Common.{◌≡◌, ◌≢◌, [], ◌∙◌, sym}
use Rattle.check_files.specs.Lent.{table_view}
use Rattle.check_files.specs.Reports.{AreFoundFrom}
use Rattle.dart_server.specs.Libraries.{LibraryGives}
use Rattle.dart_server.proofs.FoundLemmas.{clear_given, found_from, lines_given}
use Rattle.dart_server.proofs.ProgramLemmas.{none_of_length, some_of_length}
use Rattle.dart_server.proofs.WritesLemmas.{writes_map}
use Rattle.dart_server.proofs.over_files.fulfil.Goals as goal

pub returns-then-is_empty-clause-writes : goal.returns-then-is_empty-clause-writes
returns-then-is_empty-clause-writes g c =
    let found : AreFoundFrom c.args.packages.now (table_view c.args.files.now) c.args.place c.as_slice-findings.result.now = found_from _ _ c.args.linked.now _ _ c.requires.linked (rw (sym c.as_slice-findings.ensures.value) at c.in_ok-found.ensures) in
    let none : c.as_slice-findings.result.now ≡ [] = none_of_length _ (sym c.is_empty.ensures ∙ c.if-is_empty.true) in
    writes_map _ (LibraryGives c.args.task c.args.packages.now (table_view c.args.files.now) c.args.place) _ _ _
    (clear_given c.args.task c.args.packages.now (table_view c.args.files.now) c.args.linked.now c.args.place _ c.requires.linked c.requires.file c.requires.place found none) c.go_on.ensures.writes

pub returns-clause-writes : goal.returns-clause-writes
returns-clause-writes g c =
    let found : AreFoundFrom c.args.packages.now (table_view c.args.files.now) c.args.place c.as_slice-findings.result.now = found_from _ _ c.args.linked.now _ _ c.requires.linked (rw (sym c.as_slice-findings.ensures.value) at c.in_ok-found.ensures) in
    let some : c.as_slice-findings.result.now ≢ [] = some_of_length _ (sym c.is_empty.ensures ∙ c.if-is_empty.false) in
    writes_map _ (LibraryGives c.args.task c.args.packages.now (table_view c.args.files.now) c.args.place) _ _ _
    (lines_given c.args.task c.args.packages.now (table_view c.args.files.now) c.args.place _ found some) c.print.ensures.writes
