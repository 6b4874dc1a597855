use Rattle.std.proofs.Common.{◌≡◌, take, false}
use Rattle.flow_model.specs.TypeTests.{is_in}
use Rattle.flow_model.proofs.types.is_in.Given as goal

abbrev pub invariant-loop-item : goal.invariant-loop-item
invariant-loop-item l = is_in (take l.item-index l.types) l.t ≡ false
