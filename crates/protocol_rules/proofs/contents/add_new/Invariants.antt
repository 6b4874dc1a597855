use Rattle.std.proofs.Common.{◌≡◌, ◌++◌, filter, map, take}
use Rattle.check_files.specs.Lent.{table_view}
use Rattle.protocol_rules.specs.Files.{given_file, is_new}
use Rattle.protocol_rules.proofs.contents.add_new.Given as goal

abbrev pub invariant-loop-entry : goal.invariant-loop-entry
invariant-loop-entry l = table_view l.files.items ≡ table_view l.initial.files.items ++ map given_file (filter (is_new l.snapshot) (take l.entry-index l.entry-items))
