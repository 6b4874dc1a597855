use Rattle.std.proofs.Common.{◌≡◌, ◌++◌, List, map, ap, ◌∙◌}
use Rattle.std.specs.List.{filter}
use Rattle.load_files.specs.Tables.{Table}
use Rattle.check_files.specs.Lent.{table_view}
use Rattle.check_files.specs.declared.lent.LentFile.{LentFile}
use Rattle.protocol_rules.specs.Files.{files_of, given_file, is_new, overlaid}
use Rattle.protocol_rules.specs.State.{State}
use Rattle.protocol_rules.proofs.CountLemmas.{files_are_few}
use Rattle.protocol_rules.proofs.contents.Contents.files.Goals as goal

pub returns-clause-few : goal.returns-clause-few
returns-clause-few c =
    let s : State = record { roots = c.self.inside.roots; snapshot = c.self.inside.snapshot; overlays = c.self.inside.overlays } in
    let same : table_view c.add_new.new.files.items ≡ files_of s =
    c.in_ok-add_new.ensures
    ∙ ap (λ (front : Table). front ++ map given_file (filter (is_new s.snapshot) s.overlays))
    (c.in_ok-add_stored.ensures ∙ ap (λ (none : List LentFile). table_view none ++ map (overlaid s.overlays) s.snapshot) c.new-files.ensures.items) in
    files_are_few c.add_new.new.files.items s c.self.invariant c.paths_are_in_order.ensures same
