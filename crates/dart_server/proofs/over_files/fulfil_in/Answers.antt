use Rattle.std.proofs.Common.{Some, None, ◌∙◌, sym, ap}
use Rattle.check_files.specs.Lent.{table_view}
use Rattle.dart_server.proofs.EndLemmas.{few_lent}
use Rattle.dart_server.proofs.FoundLemmas.{table_given}
use Rattle.dart_server.proofs.over_files.fulfil_in.Goals as goal

pub link-requires : goal.link-requires
link-requires g c = few_lent c.as_slice-lent.result.now c.args.files.now c.requires.within (ap table_view c.as_slice-lent.ensures.value ∙ c.in_ok-lent.ensures)

pub fulfil-requires-clause-few : goal.fulfil-requires-clause-few
fulfil-requires-clause-few g c = few_lent c.as_slice-lent.result.now c.args.files.now c.requires.within (ap table_view c.as_slice-lent.ensures.value ∙ c.in_ok-lent.ensures)

pub returns-in-Some-clause-writes : goal.returns-in-Some-clause-writes
returns-in-Some-clause-writes g c =
    table_given c.args.task c.args.file.now c.args.folder.now c.args.packages.now (table_view c.as_slice-lent.result.now) c.args.files.now c.in_ok-linked.linked c.as_slice.result.now (Some c.in-Some.place) _ _ _
    (ap table_view c.as_slice-lent.ensures.value ∙ c.in_ok-lent.ensures) c.in_ok-linked.ensures c.as_slice.ensures.value (sym c.in-Some.is ∙ c.library_in.ensures.is) c.fulfil.ensures.writes

pub returns-clause-writes : goal.returns-clause-writes
returns-clause-writes g c =
    table_given c.args.task c.args.file.now c.args.folder.now c.args.packages.now (table_view c.as_slice-lent.result.now) c.args.files.now c.in_ok-linked.linked c.as_slice.result.now None _ _ _
    (ap table_view c.as_slice-lent.ensures.value ∙ c.in_ok-lent.ensures) c.in_ok-linked.ensures c.as_slice.ensures.value (sym c.in-None.is ∙ c.library_in.ensures.is) c.say.ensures.writes
