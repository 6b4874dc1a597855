use Rattle.tree_numbers.proofs.Sequences.{IsNumberedUpTo}
use Rattle.tree_numbers.proofs.numbering.number_initializers.Given as goal

abbrev pub invariant-loop-item : goal.invariant-loop-item
invariant-loop-item l = IsNumberedUpTo l.item-index l.first l.initial.initializers l.next l.initializers
