-- One more name.
use Rattle.std.proofs.Common.{◌-◌, refl}
use Rattle.dart_tokens.specs.declared.token.Kind.TheVariants as kind
use Rattle.grammar.specs.Tokens.{is, is_name}
use Rattle.readings.specs.Descent.{take_token, take_many, ◌▸◌}
use Rattle.parse_leaves.specs.Loops.{row_goes}
use Rattle.parse_decl.proofs.directives.more_names.Goals as goal

pub loop-more-preserved : goal.loop-more-preserved
loop-more-preserved c =
    row_goes (take_many (take_token (is kind.Period) ▸ take_token is_name) c.args.tokens.now) c.loop-more.more (c.loop-more.more - 1) (take_token (is kind.Period) ▸ take_token is_name) c.loop-more.list.items c.push.new.self.items c.loop-more.rest.now c.in-Some.after.now
    c.in-Some.next c.loop-more.invariant c.loop-more-test.true c.in-Some.ensures c.in_ok-push.ensures.items refl
