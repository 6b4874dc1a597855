use Rattle.std.proofs.Common.{arith}
use Rattle.tree_numbers.proofs.Sequences.{numbered_at_end}
use Rattle.tree_numbers.proofs.numbering.number_items.Goals as goal

pub returns-clause-trees : goal.returns-clause-trees
returns-clause-trees c = numbered_at_end _ _ _ _ _ c.loop-item.invariant (omega arith)
