use Rattle.std.proofs.Common.{◌≡◌, take}
use Rattle.flow_model.specs.TypeTests.{common_of}
use Rattle.flow_model.proofs.types.common.Given as goal

abbrev pub invariant-loop-t : goal.invariant-loop-t
invariant-loop-t l = l.kept ≡ common_of (take l.t-index l.t-items) l.b
