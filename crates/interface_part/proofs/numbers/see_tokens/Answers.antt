use Rattle.std.proofs.Common.{◌<◌, get_or, length, arith}
use Rattle.std.proofs.lemmas.List.{get_or_default}
use Rattle.dart_tokens.specs.declared.token.Token.{Token}
use Rattle.dart_tokens.specs.declared.token.Kind.TheVariants as kind
use Rattle.interface_part.proofs.Numbering.{see_more}
use Rattle.interface_part.proofs.numbers.see_tokens.Goals as goal

pub loop-token-preserved : goal.loop-token-preserved
loop-token-preserved c =
    let tokens = c.args.tokens.now in
    let i = c.loop-token.token-index in
    let within : i < length tokens = omega (arith, c.loop-token-test.true) in
    let t : Token = get_or tokens i (record { kind = kind.Identifier; start = 0; end = 0; word = 0 }) in
    see_more c.args.marks c.args.seen.now.items c.loop-token.seen.items _ tokens i _ t within (get_or_default tokens i _ _ within) c.loop-token.invariant (omega arith) c.in_ok-push.ensures.items
