-- At the end all are in order.
use Rattle.std.proofs.Common.{◌≤◌, length, arith}
use Rattle.parse_tests.proofs.Orders.{in_order_at_end}
use Rattle.parse_tests.proofs.reading.are_in_order.Goals as goal

pub returns : goal.returns
returns c e = in_order_at_end c.loop-place.place c.args.tokens.now c.loop-place.invariant.0 (omega (arith, c.loop-place-test.false))
