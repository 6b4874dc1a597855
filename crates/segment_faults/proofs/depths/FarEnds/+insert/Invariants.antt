use Rattle.std.proofs.Common.{length}
use Rattle.segment_faults.proofs.depths.FarEnds.+insert.Given as goal

abbrev pub decreases-insert : goal.decreases-insert
decreases-insert l = length l.self.now
