use Rattle.std.proofs.Common.{◌≡◌, [], drop}
use Rattle.flow_model.specs.Steps.{conservative_of}
use Rattle.flow_model.proofs.model.Flow.conservative_join.Given as goal

abbrev pub invariant-loop-var : goal.invariant-loop-var
invariant-loop-var l =
    conservative_of l.forgotten (drop l.var-index l.written) l.captured ≡ conservative_of l.fn.self l.written l.captured

abbrev pub invariant-loop-var-2 : goal.invariant-loop-var-2
invariant-loop-var-2 l =
    conservative_of l.forgotten [] (drop l.var-index l.captured) ≡ conservative_of l.fn.self l.written l.captured
