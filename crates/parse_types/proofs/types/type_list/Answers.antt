-- One more of the list, behind a comma.
use Rattle.std.proofs.Common.{◌-◌, refl, arith}
use Rattle.dart_tokens.specs.declared.token.Kind.TheVariants as kind
use Rattle.grammar.specs.Tokens.{is}
use Rattle.grammar.specs.Descents.{lower, take_separated}
use Rattle.readings.specs.Descent.{take_token}
use Rattle.parse_leaves.specs.Commas.{comma_goes, comma_stop}
use Rattle.parse_leaves.specs.Grown.{heights_grown, within_grown}
use Rattle.parse_types.proofs.types.type_list.Goals as goal

pub loop-more-preserved : goal.loop-more-preserved
loop-more-preserved g c = record {
  reading =
      comma_goes (take_separated ((lower (g.B.Below.room c.args.below.now)).written) c.args.tokens.now) c.loop-more.more (c.loop-more.more - 1) (take_token (is kind.Comma)) ((lower (g.B.Below.room c.args.below.now)).written) c.loop-more.list.items c.push-in-Ok.new.self.items c.loop-more.rest.now c.in-Some.behind.now c.in-Ok.after.now
      c.in-Some.field-0-0 c.in-Ok.next c.loop-more.invariant.reading (omega arith) c.in-Some.ensures c.in-Ok.ensures.reading c.in_ok-push-in-Ok.ensures.items refl;
  deep = heights_grown c.loop-more.height c.in-Ok.tall c.higher-height.result c.loop-more.list.items c.push-in-Ok.new.self.items c.in-Ok.next c.loop-more.invariant.deep c.in-Ok.ensures.deep.0 c.in_ok-push-in-Ok.ensures.items c.higher-height.ensures;
  within = within_grown c.loop-more.height c.in-Ok.tall c.higher-height.result (g.B.Below.room c.args.below.now) c.loop-more.invariant.within c.in-Ok.ensures.deep.1 c.higher-height.ensures;
}

pub returns-in-Err-NoReading-clause-reading : goal.returns-in-Err-NoReading-clause-reading
returns-in-Err-NoReading-clause-reading g c =
    comma_stop (take_separated ((lower (g.B.Below.room c.args.below.now)).written) c.args.tokens.now) c.loop-more.more (take_token (is kind.Comma)) ((lower (g.B.Below.room c.args.below.now)).written) c.loop-more.list.items c.loop-more.rest.now c.in-Some.behind.now c.in-Some.field-0-0 c.loop-more.invariant.reading c.in-Some.ensures (rw c.in-Err-NoReading.field-0-is at c.in-Err-NoReading.ensures.reading)
