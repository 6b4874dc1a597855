use Rattle.std.proofs.Common.{arith}
use Rattle.error_nodes.proofs.Sequences.{added_at_end}
use Rattle.error_nodes.proofs.members.add_from_initializers.Goals as goal

pub returns : goal.returns
returns c = added_at_end _ _ _ _ c.loop-item.invariant (omega arith)
