use Rattle.std.proofs.Common.{arith, lit<}
use Rattle.std.proofs.Math.Nat.{pow-le-pow_right}
use Rattle.dart_scan.proofs.escape.hexadecimal_value.Goals as goal

pub overflow_mul-number : goal.overflow_mul-number
overflow_mul-number c =
    omega (arith, pow-le-pow_right {n = 16} (lit< tt) {i = c.loop-digit.digit-index} {j = 5} (omega (arith, c.requires.few, c.loop-digit-test.true)), c.loop-digit.invariant.small)

pub overflow_add-number : goal.overflow_add-number
overflow_add-number c =
    omega (arith, pow-le-pow_right {n = 16} (lit< tt) {i = c.loop-digit.digit-index} {j = 5} (omega (arith, c.requires.few, c.loop-digit-test.true)), c.loop-digit.invariant.small, c.digit_of.ensures.small)
