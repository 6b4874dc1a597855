-- One more, and a type in which others stand.
use Rattle.std.proofs.Common.{◌-◌, refl}
use Rattle.dart_tokens.specs.declared.token.Kind.TheVariants as kind
use Rattle.grammar.specs.Tokens.{is}
use Rattle.grammar.specs.Outline.{◌⨾◌, over, over_tail, over_type, repeated}
use Rattle.std.proofs.Common.{length}
use Rattle.parse_leaves.specs.Angles.{inside_angles}
use Rattle.parse_leaves.proofs.Outlines.{repeated_goes}
use Rattle.parse_leaves.proofs.outline.+outline.Goals as goal

pub over_more-loop-more-preserved : goal.over_more-loop-more-preserved
over_more-loop-more-preserved t c = record {
  kept = let w = over (is kind.Comma) ⨾ inside_angles c.args.angles (over_type c.args.depth) in
      repeated_goes (repeated (length c.args.tokens.now) w c.args.tokens.now) c.loop-more.more (c.loop-more.more - 1) w c.loop-more.rest.now c.in-Some.next.now c.loop-more.invariant.kept c.loop-more-test.true c.in-Some.ensures refl;
}

pub over_tails-loop-more-preserved : goal.over_tails-loop-more-preserved
over_tails-loop-more-preserved t c = record {
  kept = let w = over_tail (over_type c.args.depth) in
      repeated_goes (repeated (length c.args.tokens.now) w c.args.tokens.now) c.loop-more.more (c.loop-more.more - 1) w c.loop-more.rest.now c.in-Some.next.now c.loop-more.invariant.kept c.loop-more-test.true c.in-Some.ensures refl;
}
