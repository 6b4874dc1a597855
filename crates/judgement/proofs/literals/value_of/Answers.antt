use Rattle.judgement.proofs.LiteralLemmas.{past_64_bits, all_digits}
use Rattle.judgement.proofs.literals.value_of.Goals as goal

pub returns-in_default : goal.returns-in_default
returns-in_default c = past_64_bits _ _ _ _ c.requires c.loop-digit-test.true c.in_default.ensures c.loop-digit.invariant.reached

pub returns : goal.returns
returns c = all_digits c.args.base c.loop-digit.number c.loop-digit.digit-index c.args.digits.now c.loop-digit-test.false c.loop-digit.invariant.fits c.loop-digit.invariant.reached
