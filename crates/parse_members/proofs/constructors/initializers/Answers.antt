-- One more of the list, behind a comma.
use Rattle.std.proofs.Common.{◌-◌, refl, arith}
use Rattle.dart_tokens.specs.declared.token.Kind.TheVariants as kind
use Rattle.grammar.specs.Tokens.{is}
use Rattle.grammar.specs.Descents.{lower, take_separated}
use Rattle.grammar.specs.DeclarationDescents.{take_initializer}
use Rattle.readings.specs.Descent.{take_token}
use Rattle.parse_leaves.specs.Commas.{comma_goes, comma_stop}
use Rattle.parse_members.proofs.constructors.initializers.Goals as goal

pub loop-more-preserved : goal.loop-more-preserved
loop-more-preserved g c = record {
  reading =
      comma_goes (take_separated (take_initializer (lower (g.B.Below.room c.args.below.now))) c.args.tokens.now) c.loop-more.more (c.loop-more.more - 1) (take_token (is kind.Comma)) (take_initializer (lower (g.B.Below.room c.args.below.now))) c.loop-more.list.items c.push-in-Ok.new.self.items c.loop-more.rest.now c.in-Some.behind.now c.in-Ok.after.now
      c.in-Some.field-0-0 c.in-Ok.next c.loop-more.invariant.reading (omega arith) c.in-Some.ensures c.in-Ok.ensures c.in_ok-push-in-Ok.ensures.items refl;
}

pub returns-in-Err-NoReading : goal.returns-in-Err-NoReading
returns-in-Err-NoReading g c =
    comma_stop (take_separated (take_initializer (lower (g.B.Below.room c.args.below.now))) c.args.tokens.now) c.loop-more.more (take_token (is kind.Comma)) (take_initializer (lower (g.B.Below.room c.args.below.now))) c.loop-more.list.items c.loop-more.rest.now c.in-Some.behind.now c.in-Some.field-0-0 c.loop-more.invariant.reading c.in-Some.ensures (rw c.in-Err-NoReading.field-0-is at c.in-Err-NoReading.ensures)
