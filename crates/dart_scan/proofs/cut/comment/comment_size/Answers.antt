use Rattle.std.proofs.Common.{arith, refl, sym, ◌∙◌}
use Rattle.dart_scan.proofs.CommentLemmas.{past_last, past_inner, past_opening, past_other, at_the_end}
use Rattle.dart_scan.proofs.cut.comment.comment_size.Goals as goal

pub returns-then-inner-eq0-clause-size : goal.returns-then-inner-eq0-clause-size
returns-then-inner-eq0-clause-size c = past_last _ _ _ c.if-inner-eq0.true (sym c.stands_at.ensures.value ∙ c.if-stands_at.true) c.loop-at.invariant.reached

pub loop-at-preserved-then-stands_at : goal.loop-at-preserved-then-stands_at
loop-at-preserved-then-stands_at c = record {
  within = omega (arith, c.if-stands_at.ensures.within refl);
  shallow = omega arith;
  reached = past_inner _ _ _ c.if-inner-eq0.false (sym c.stands_at.ensures.value ∙ c.if-stands_at.true) c.loop-at.invariant.reached;
}

pub loop-at-preserved-then-stands_at-2 : goal.loop-at-preserved-then-stands_at-2
loop-at-preserved-then-stands_at-2 c = record {
  within = omega (arith, c.if-stands_at-2.ensures.within refl);
  shallow = omega arith;
  reached = past_opening _ _ _ (sym c.stands_at.ensures.value ∙ c.if-stands_at.false) (sym c.stands_at-else-stands_at.ensures.value ∙ c.if-stands_at-2.true) c.loop-at.invariant.reached;
}

pub loop-at-preserved : goal.loop-at-preserved
loop-at-preserved c = record {
  within = omega arith;
  shallow = omega arith;
  reached = past_other _ _ _ (sym c.stands_at.ensures.value ∙ c.if-stands_at.false) (sym c.stands_at-else-stands_at.ensures.value ∙ c.if-stands_at-2.false) c.loop-at.invariant.reached;
}

pub returns-clause-size : goal.returns-clause-size
returns-clause-size c = at_the_end _ _ _ c.loop-at-test.false c.loop-at.invariant.reached
