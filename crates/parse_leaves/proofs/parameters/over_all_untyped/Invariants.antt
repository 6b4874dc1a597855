use Rattle.std.proofs.Common.{◌≡◌, length}
use Rattle.grammar.specs.Outline.{repeated}
use Rattle.grammar.specs.Parameters.{over_untyped}
use Rattle.parse_leaves.proofs.parameters.over_all_untyped.Given as goal

abbrev pub invariant-loop-more : goal.invariant-loop-more
invariant-loop-more l = record {
  kept : repeated (length l.tokens) over_untyped l.tokens ≡ repeated l.more over_untyped l.rest;
}

abbrev pub decreases-loop-more : goal.decreases-loop-more
decreases-loop-more l = l.more
