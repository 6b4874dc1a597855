use Rattle.std.proofs.Common.{take}
use Rattle.check_files.specs.Lent.{table_view}
use Rattle.check_files.specs.Sources.{AreRead}
use Rattle.check_files.proofs.again.read_again.Given as goal

abbrev pub invariant-loop-file : goal.invariant-loop-file
invariant-loop-file l = AreRead (table_view (take l.file-index l.files)) l.read
