-- One more level.
use Rattle.std.proofs.Common.{◌-◌, refl, sym, subst, ◌∙◌, arith}
use Rattle.last_parts.specs.LastParts.{IsLast}
use Rattle.parse_operators.specs.Ends.{Places}
use Rattle.parse_operators.proofs.Steps.{climb_more}
use Rattle.parse_operators.proofs.again.climb.Goals as goal

pub loop-more-preserved : goal.loop-more-preserved
loop-more-preserved g c = record {
  reading =
      climb_more (g.B.Below.room c.args.below.now) (c.loop-more.more - 1) c.loop-more.more _ _ (c.args.left, c.args.tokens.now) c.loop-more.extent c.in_ok-found.found c.loop-more.rest.now c.in_ok-found.after.now
      c.loop-more.invariant.reading (omega arith) c.loop-more.invariant.few refl refl c.in_ok-found.ensures.found;
  few = omega (arith, c.loop-more.invariant.few);
  last = subst (λ (s : Places). IsLast c.in_ok-found.after.now s.tokens) (sym c.in_ok-found.ensures.same) c.in_ok-found.ensures.last;
  deep = c.in_ok-found.ensures.deep;
  same = c.in_ok-found.ensures.same ∙ c.loop-more.invariant.same;
}
