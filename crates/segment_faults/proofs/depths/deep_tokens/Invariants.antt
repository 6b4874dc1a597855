use Rattle.segment_faults.proofs.Farthest.{AreWalked}
use Rattle.segment_faults.proofs.depths.deep_tokens.Given as goal

abbrev pub invariant-loop-place : goal.invariant-loop-place
invariant-loop-place l = AreWalked l.tokens l.place l.around l.deep.items
