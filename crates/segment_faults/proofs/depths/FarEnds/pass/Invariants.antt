use Rattle.std.proofs.Common.{◌≡◌, length}
use Rattle.segment_faults.specs.Ends.{ahead}
use Rattle.segment_faults.proofs.depths.FarEnds.pass.Given as goal

abbrev pub invariant-loop-end : goal.invariant-loop-end
invariant-loop-end l = ahead l.place l.self ≡ ahead l.place l.initial.self

abbrev pub decreases-loop-end : goal.decreases-loop-end
decreases-loop-end l = length l.self
