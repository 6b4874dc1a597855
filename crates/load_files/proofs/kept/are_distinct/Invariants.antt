use Rattle.std.proofs.Common.{◌≡◌, length}
use Rattle.load_files.specs.Kept.{are_distinct}
use Rattle.load_files.proofs.kept.are_distinct.Given as goal

abbrev pub invariant-loop-rest : goal.invariant-loop-rest
invariant-loop-rest l = are_distinct l.kept ≡ are_distinct l.rest

abbrev pub decreases-loop-rest : goal.decreases-loop-rest
decreases-loop-rest l = length l.rest
