-- One more element, with a comma behind it.
use Rattle.std.proofs.Common.{◌-◌, refl, arith}
use Rattle.dart_tokens.specs.declared.token.Kind.TheVariants as kind
use Rattle.grammar.specs.Tokens.{is}
use Rattle.grammar.specs.Descents.{lower, take_entry}
use Rattle.readings.specs.Descent.{take_token, take_elements}
use Rattle.parse_leaves.specs.Loops.{each_goes}
use Rattle.parse_leaves.specs.Grown.{heights_grown, within_grown}
use Rattle.parse_operands.proofs.arguments.entries.Goals as goal

pub loop-more-preserved : goal.loop-more-preserved
loop-more-preserved g c = record {
  reading =
      each_goes (take_elements (take_entry (lower (g.B.Below.room c.args.below.now))) (take_token (is kind.Comma)) c.args.tokens.now) c.loop-more.more (c.loop-more.more - 1) (take_entry (lower (g.B.Below.room c.args.below.now))) (take_token (is kind.Comma)) c.loop-more.list.items c.push.new.self.items c.loop-more.rest.now c.in-Ok.after.now c.in-Some.behind.now
      c.in-Ok.next c.in-Some.field-0-0 c.loop-more.invariant.reading (omega arith) c.in-Ok.ensures.reading c.in-Some.ensures c.in_ok-push-in-Ok.ensures.items refl;
  deep = heights_grown c.loop-more.height c.in-Ok.tall c.higher-height.result c.loop-more.list.items c.push.new.self.items c.in-Ok.next c.loop-more.invariant.deep c.in-Ok.ensures.deep.0 c.in_ok-push-in-Ok.ensures.items c.higher-height.ensures;
  within = within_grown c.loop-more.height c.in-Ok.tall c.higher-height.result (g.B.Below.room c.args.below.now) c.loop-more.invariant.within c.in-Ok.ensures.deep.1 c.higher-height.ensures;
}
