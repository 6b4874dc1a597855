use Rattle.dart_tokens.proofs.FaultLemmas.{FaultsSoFar}
use Rattle.dart_tokens.proofs.faults.faults.Given as goal

abbrev pub invariant-loop-index : goal.invariant-loop-index
invariant-loop-index l = FaultsSoFar l.index l.tokens l.faults.items
