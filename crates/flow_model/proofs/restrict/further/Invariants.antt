use Rattle.std.proofs.Common.{◌≡◌, take}
use Rattle.flow_model.specs.Restrict.{further_of}
use Rattle.flow_model.proofs.restrict.further.Given as goal

abbrev pub invariant-loop-t : goal.invariant-loop-t
invariant-loop-t l = l.chain ≡ further_of l.rows.table l.body.ty l.body.chain (take l.t-index l.block)
