-- Once more.
use Rattle.std.proofs.Common.{◌-◌, length, refl}
use Rattle.grammar.specs.Outline.{Way, behind_arguments, either_way, repeated}
use Rattle.grammar.specs.Parameters.{over_piece}
use Rattle.parse_leaves.proofs.Outlines.{repeated_goes}
use Rattle.parse_leaves.proofs.parameters.over_value.Goals as goal

pub loop-more-preserved : goal.loop-more-preserved
loop-more-preserved c = record {
  kept = let w : Way = either_way behind_arguments over_piece in
      repeated_goes (repeated (length c.args.tokens.now) w c.args.tokens.now) c.loop-more.more (c.loop-more.more - 1) w c.loop-more.rest.now c.in-Some.next.now c.loop-more.invariant.kept c.loop-more-test.true c.in-Some.ensures refl;
}
