use Rattle.std.proofs.Common.{◌+◌, drop, length}
use Rattle.core_check.proofs.Walks.{Walks}
use Rattle.core_check.proofs.merge.lists_imply.Given as goal

abbrev pub invariant-loop-slot : goal.invariant-loop-slot
invariant-loop-slot l = Walks l.context.program.now l.context.function.now l.changes l.before.listed l.after.listed (drop l.place l.before.listed) (drop l.place_after l.after.listed)

abbrev pub decreases-loop-slot : goal.decreases-loop-slot
decreases-loop-slot l = length (drop l.place l.before.listed) + length (drop l.place_after l.after.listed)
