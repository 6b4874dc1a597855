-- A level that doesn't come next is passed over.
use Rattle.std.proofs.Common.{◌-◌, refl, arith}
use Rattle.grammar.specs.Descents.{lower}
use Rattle.parse_operators.proofs.Climbing.{climb_passes}
use Rattle.parse_operators.proofs.expressions.climb.Goals as goal

pub loop-more-preserved-then-not-is_level : goal.loop-more-preserved-then-not-is_level
loop-more-preserved-then-not-is_level g c = record {
  reading =
      climb_passes (g.B.Below.room c.args.below.now) c.args.setting (lower (g.B.Below.room c.args.below.now)) c.args.start.now (c.loop-more.more - 1) c.loop-more.more c.args.levels.now _ _ (c.args.first, c.args.tokens.now) c.loop-more.left c.loop-more.rest.now
      c.loop-more.next c.is_level.result c.loop-more.invariant.reading (omega arith) c.loop-more.invariant.few refl refl c.loop-more.invariant.next c.is_level.ensures c.if-not-is_level.true;
  next = c.loop-more.invariant.next;
  few = omega (arith, c.loop-more.invariant.few);
  deep = c.loop-more.invariant.deep;
  within = c.loop-more.invariant.within;
}
