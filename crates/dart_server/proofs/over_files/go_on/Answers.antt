use Rattle.std.proofs.Common.{◌≡◌, Bool, List, ◌∙◌, sym, ap, subst}
use Rattle.std.specs.Prelude.{slice_get}
use Rattle.element_terms.specs.declared.libraries.LibraryElement.{LibraryElement}
use Rattle.check_files.specs.Lent.{table_view}
use Rattle.check_files.specs.Reports.{table_elements}
use Rattle.check_library.specs.Diagnostics.{diagnostics}
use Rattle.dart_server.specs.declared.task.Task.{Task}
use Rattle.dart_server.specs.Libraries.{ClearGives, has_main, text_in}
use Rattle.dart_server.specs.Run.{RunGives}
use Rattle.dart_server.specs.Writes.{Writes}
use Rattle.dart_server.proofs.FoundLemmas.{elements_are}
use Rattle.dart_server.proofs.over_files.go_on.Goals as goal

pub returns-in-Run-clause-writes : goal.returns-in-Run-clause-writes
returns-in-Run-clause-writes g c =
    let text = text_in (table_view c.args.files.now) c.args.place in
    let elements = c.as_slice-elements.ensures.value ∙ elements_are c.args.packages.now (table_view c.args.files.now) c.args.linked.now c.requires.linked in
    let main : c.has_main.result ≡ has_main (slice_get (table_elements c.args.packages.now (table_view c.args.files.now)) c.args.place) =
    c.has_main.ensures ∙ ap (λ (all : List LibraryElement). has_main (slice_get all c.args.place)) elements in
    subst (λ (task : Task). Writes (ClearGives (diagnostics text) task c.args.packages.now (table_view c.args.files.now) c.args.place) (g.K.Sink.written c.args.sink.now) (g.K.Sink.written c.run_at.new.sink) c.run_at.result) (sym c.in-Run.is)
    (subst (λ (found : Bool). Writes (RunGives text found c.in-Run.steps (diagnostics text)) (g.K.Sink.written c.args.sink.now) (g.K.Sink.written c.run_at.new.sink) c.run_at.result) main c.run_at.ensures.writes)
