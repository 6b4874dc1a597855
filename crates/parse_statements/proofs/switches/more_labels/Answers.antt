-- One more in a row.
use Rattle.std.proofs.Common.{◌-◌, refl, arith}
use Rattle.grammar.specs.Descents.{lower, take_label}
use Rattle.readings.specs.Descent.{take_many}
use Rattle.parse_leaves.specs.Loops.{row_goes}
use Rattle.parse_leaves.specs.Grown.{heights_grown, within_grown}
use Rattle.parse_statements.proofs.switches.more_labels.Goals as goal

pub loop-more-preserved : goal.loop-more-preserved
loop-more-preserved g c = record {
  reading =
      row_goes (take_many (take_label (lower (g.B.Below.room c.args.below.now))) c.args.tokens.now) c.loop-more.more (c.loop-more.more - 1) (take_label (lower (g.B.Below.room c.args.below.now))) c.loop-more.list.items c.push.new.self.items c.loop-more.rest.now c.in-Ok.after.now c.in-Ok.next
      c.loop-more.invariant.reading (omega arith) c.in-Ok.ensures.reading c.in_ok-push-in-Ok.ensures.items refl;
  deep = heights_grown c.loop-more.height c.in-Ok.tall c.higher-height.result c.loop-more.list.items c.push.new.self.items c.in-Ok.next c.loop-more.invariant.deep c.in-Ok.ensures.deep.0 c.in_ok-push-in-Ok.ensures.items c.higher-height.ensures;
  within = within_grown c.loop-more.height c.in-Ok.tall c.higher-height.result (g.B.Below.room c.args.below.now) c.loop-more.invariant.within c.in-Ok.ensures.deep.1 c.higher-height.ensures;
}
