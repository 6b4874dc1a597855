use Rattle.std.proofs.Common.{take}
use Rattle.flow_model.specs.Meeting.{JoinTo}
use Rattle.flow_model.proofs.join.all_join_to.Given as goal

-- the locals before the place meet so
abbrev pub invariant-loop-i : goal.invariant-loop-i
invariant-loop-i l = JoinTo l.path (take l.i l.a) (take l.i l.b)
