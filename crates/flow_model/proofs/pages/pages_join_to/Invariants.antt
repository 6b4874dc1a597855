use Rattle.std.proofs.Common.{take}
use Rattle.flow_model.specs.Meeting.{JoinTo}
use Rattle.flow_model.proofs.Paged.{paged}
use Rattle.flow_model.proofs.pages.pages_join_to.Given as goal

-- the locals of the pages before the place meet so
abbrev pub invariant-loop-i : goal.invariant-loop-i
invariant-loop-i l = JoinTo l.path (paged (take l.i l.pages)) (paged (take l.i l.others))
