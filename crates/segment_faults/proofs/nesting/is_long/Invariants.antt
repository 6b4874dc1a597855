use Rattle.std.proofs.Common.{drop}
use Rattle.segment_faults.proofs.Outsides.{IsCounted}
use Rattle.segment_faults.proofs.nesting.is_long.Given as goal

abbrev pub invariant-loop-token : goal.invariant-loop-token
invariant-loop-token l = IsCounted l.segment (drop l.token-index l.segment) l.token-index l.inside l.lexemes
