-- Once more.
use Rattle.std.proofs.Common.{◌-◌, length, refl}
use Rattle.grammar.specs.Outline.{Way, repeated}
use Rattle.grammar.specs.Parameters.{over_untyped}
use Rattle.parse_leaves.proofs.Outlines.{repeated_goes}
use Rattle.parse_leaves.proofs.parameters.over_all_untyped.Goals as goal

pub loop-more-preserved : goal.loop-more-preserved
loop-more-preserved c = record {
  kept = let w : Way = over_untyped in
      repeated_goes (repeated (length c.args.tokens.now) w c.args.tokens.now) c.loop-more.more (c.loop-more.more - 1) w c.loop-more.rest.now c.in-Some.next.now c.loop-more.invariant.kept c.loop-more-test.true c.in-Some.ensures refl;
}
