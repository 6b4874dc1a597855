use Rattle.error_nodes.proofs.Sequences.{AreAddedUpTo}
use Rattle.error_nodes.proofs.members.add_from_initializers.Given as goal

abbrev pub invariant-loop-item : goal.invariant-loop-item
invariant-loop-item l = AreAddedUpTo l.item-index l.initializers l.initial.errors.items l.errors.items
