use Rattle.std.proofs.Common.{◌≡◌, take}
use Rattle.check_files.specs.Lent.{table_view}
use Rattle.check_files.proofs.lent.lent_files.Given as goal

abbrev pub invariant-loop-file : goal.invariant-loop-file
invariant-loop-file l = table_view l.files.items ≡ take l.file-index l.snapshot
