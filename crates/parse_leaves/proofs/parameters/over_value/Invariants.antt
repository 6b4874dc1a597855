use Rattle.std.proofs.Common.{◌≡◌, length}
use Rattle.grammar.specs.Outline.{behind_arguments, either_way, repeated}
use Rattle.grammar.specs.Parameters.{over_piece}
use Rattle.parse_leaves.proofs.parameters.over_value.Given as goal

abbrev pub invariant-loop-more : goal.invariant-loop-more
invariant-loop-more l = record {
  kept : repeated (length l.tokens) (either_way behind_arguments over_piece) l.tokens ≡ repeated l.more (either_way behind_arguments over_piece) l.rest;
}

abbrev pub decreases-loop-more : goal.decreases-loop-more
decreases-loop-more l = l.more
