use Rattle.std.proofs.Common.{◌≡◌}
use Rattle.flow_model.specs.Join.{join_facts}
use Rattle.flow_model.proofs.Pairs.{so_far}
use Rattle.flow_model.proofs.join.join_locals.Given as goal

-- the locals before the place are joined
abbrev pub invariant-loop-i : goal.invariant-loop-i
invariant-loop-i l = l.joined ≡ so_far join_facts l.a l.b l.i
