use Rattle.std.proofs.Common.{◌≡◌, take}
use Rattle.flow_model.specs.TypeTests.{union_of}
use Rattle.flow_model.proofs.types.union.Given as goal

abbrev pub invariant-loop-t : goal.invariant-loop-t
invariant-loop-t l = l.types ≡ union_of l.a (take l.t-index l.b)
