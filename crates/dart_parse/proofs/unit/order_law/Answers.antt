-- What the law says of the bytes of the text it says of the text.
use Rattle.std.proofs.Common.{◌≡◌}
use Rattle.dart_parse.proofs.Order.{in_order}
use Rattle.dart_parse.proofs.unit.order_law.Goals as goal

pub returns : goal.returns
returns c =
    let same : c.as_bytes.result.now ≡ c.args.text.now = let a = c.as_str.ensures.same in let b = c.as_bytes.ensures.value in cc in
    in_order c.args.text.now c.as_bytes.result.now c.args.tokens.now same c.requires (c.tokens_rise.ensures.some c.as_bytes.ensures.utf8) (c.tokens_rise.ensures.apart c.as_bytes.ensures.utf8)
