use Rattle.error_nodes.proofs.Sequences.{AreAddedUpTo}
use Rattle.error_nodes.proofs.members.add_from_members.Given as goal

abbrev pub invariant-loop-item : goal.invariant-loop-item
invariant-loop-item l = AreAddedUpTo l.item-index l.members l.initial.errors.items l.errors.items
