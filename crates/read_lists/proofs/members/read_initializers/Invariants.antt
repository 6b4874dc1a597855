use Rattle.read_lists.proofs.Sequences.{AreReadUpTo}
use Rattle.read_lists.proofs.members.read_initializers.Given as goal

abbrev pub invariant-loop-item : goal.invariant-loop-item
invariant-loop-item g l = AreReadUpTo l.item-index (g.R.ReadsLists.lists l.reader) l.room l.initial.initializers l.initializers
