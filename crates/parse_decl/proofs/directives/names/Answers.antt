-- One more of the list, behind a comma.
use Rattle.std.proofs.Common.{◌-◌, refl, arith}
use Rattle.dart_tokens.specs.declared.token.Kind.TheVariants as kind
use Rattle.grammar.specs.Tokens.{is, is_name}
use Rattle.grammar.specs.Descents.{take_separated}
use Rattle.readings.specs.Descent.{take_token}
use Rattle.parse_leaves.specs.Commas.{comma_goes, comma_stop}
use Rattle.parse_decl.proofs.directives.names.Goals as goal

pub loop-more-preserved : goal.loop-more-preserved
loop-more-preserved c = record {
  reading =
      comma_goes (take_separated (take_token is_name) c.args.tokens.now) c.loop-more.more (c.loop-more.more - 1) (take_token (is kind.Comma)) (take_token is_name) c.loop-more.list.items c.push-in-loop-more.new.self.items c.loop-more.rest.now c.in-Some.behind.now c.in-Some-name.after.now
      c.in-Some.field-0-0 c.in-Some-name.next c.loop-more.invariant.reading (omega arith) c.in-Some.ensures c.in-Some-name.ensures c.in_ok-push-2.ensures.items refl;
}

pub returns-in_default-name : goal.returns-in_default-name
returns-in_default-name c =
    comma_stop (take_separated (take_token is_name) c.args.tokens.now) c.loop-more.more (take_token (is kind.Comma)) (take_token is_name) c.loop-more.list.items c.loop-more.rest.now c.in-Some.behind.now c.in-Some.field-0-0 c.loop-more.invariant.reading c.in-Some.ensures c.in_default-name.ensures
