use Rattle.error_nodes.proofs.Sequences.{AreAddedUpTo}
use Rattle.error_nodes.proofs.units.add_from_items.Given as goal

abbrev pub invariant-loop-item : goal.invariant-loop-item
invariant-loop-item l = AreAddedUpTo l.item-index l.items l.initial.errors.items l.errors.items
