use Rattle.std.proofs.Common.{◌≡◌, ◌++◌, map, take}
use Rattle.check_files.specs.Lent.{table_view}
use Rattle.protocol_rules.specs.Files.{overlaid}
use Rattle.protocol_rules.proofs.contents.add_stored.Given as goal

abbrev pub invariant-loop-file : goal.invariant-loop-file
invariant-loop-file l = table_view l.files.items ≡ table_view l.initial.files.items ++ map (overlaid l.overlays) (take l.file-index l.file-items)
