use Rattle.std.proofs.Common.{◌≡◌, List, ℕ, [], ◌∙◌, sym, ap, subst}
use Rattle.std.specs.Option.{option_copied}
use Rattle.check_files.specs.Lent.{table_view}
use Rattle.check_files.specs.Lines.{TextIs}
use Rattle.check_library.specs.Diagnostics.{diagnostics}
use Rattle.dart_server.specs.Libraries.{text_in}
use Rattle.dart_server.specs.Run.{RunGives}
use Rattle.dart_server.specs.Writes.{Writes}
use Rattle.dart_server.proofs.over_files.run_at.Goals as goal

pub returns-in-Some-clause-writes : goal.returns-in-Some-clause-writes
returns-in-Some-clause-writes g c =
    let same : c.in-Some.text.now ≡ text_in (table_view c.args.files.now) c.args.place = subst (TextIs (text_in (table_view c.args.files.now) c.args.place)) (ap option_copied c.in-Some.is) c.text_held.ensures in
    subst (λ (text : List ℕ). Writes (RunGives text c.args.has_main c.args.steps (diagnostics text)) (g.K.Sink.written c.args.sink.now) (g.K.Sink.written c.run_library.new.sink) c.run_library.result) same c.run_library.ensures.writes

pub returns-in_ok-empty-in-None-clause-writes : goal.returns-in_ok-empty-in-None-clause-writes
returns-in_ok-empty-in-None-clause-writes g c =
    let none : text_in (table_view c.args.files.now) c.args.place ≡ [] = subst (TextIs (text_in (table_view c.args.files.now) c.args.place)) (ap option_copied c.in-None.is) c.text_held.ensures in
    subst (λ (text : List ℕ). Writes (RunGives text c.args.has_main c.args.steps (diagnostics text)) (g.K.Sink.written c.args.sink.now) (g.K.Sink.written c.run_library-in-None.new.sink) c.run_library-in-None.result) (c.in_ok-empty-in-None.ensures ∙ sym none) c.run_library-in-None.ensures.writes
