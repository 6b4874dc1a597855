use Rattle.std.proofs.Common.{◌≡◌, take}
use Rattle.flow_model.specs.Flow.{start_of}
use Rattle.flow_model.proofs.model.Flow.start.Given as goal

abbrev pub invariant-loop-var : goal.invariant-loop-var
invariant-loop-var l = l.flow ≡ start_of (take l.var-index l.vars)
