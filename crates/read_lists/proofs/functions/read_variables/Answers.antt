use Rattle.std.proofs.Common.{arith}
use Rattle.read_lists.proofs.Sequences.{read_at_end}
use Rattle.read_lists.proofs.functions.read_variables.Goals as goal

pub returns : goal.returns
returns g c = read_at_end _ _ _ _ _ c.loop-item.invariant (omega arith)
