use Rattle.std.proofs.Common.{◌≡◌, [], take}
use Rattle.flow_model.specs.Steps.{conservative_of}
use Rattle.flow_model.proofs.model.Flow.is_kept_by_writes.Given as goal

-- code that writes the locals before the place changes nothing
abbrev pub invariant-loop-var : goal.invariant-loop-var
invariant-loop-var l = conservative_of l.self (take l.var-index l.written) [] ≡ l.self
