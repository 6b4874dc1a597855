use Rattle.std.proofs.Common.{◌≡◌, drop}
use Rattle.flow_model.specs.Flow.{end_of}
use Rattle.flow_model.proofs.model.Flow.end.Given as goal

abbrev pub invariant-loop-i : goal.invariant-loop-i
invariant-loop-i l = l.ended ≡ end_of l.fn.self (drop l.i l.vars)
