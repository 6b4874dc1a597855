use Rattle.tree_numbers.proofs.Sequences.{IsNumberedUpTo}
use Rattle.tree_numbers.proofs.numbering_names.number_annotations.Given as goal

abbrev pub invariant-loop-item : goal.invariant-loop-item
invariant-loop-item l = IsNumberedUpTo l.item-index l.first l.initial.annotations l.next l.annotations
