use Rattle.tree_numbers.proofs.Sequences.{IsNumberedUpTo}
use Rattle.tree_numbers.proofs.numbering_names.number_listed_names.Given as goal

abbrev pub invariant-loop-item : goal.invariant-loop-item
invariant-loop-item l = IsNumberedUpTo l.item-index l.first l.initial.listed_names l.next l.listed_names
