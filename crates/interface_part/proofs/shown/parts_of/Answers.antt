use Rattle.std.proofs.Common.{arith}
use Rattle.interface_part.proofs.Walks.{parts_end}
use Rattle.interface_part.proofs.shown.parts_of.Goals as goal

pub returns : goal.returns
returns c =
    parts_end c.args.words.now c.args.hidden.now c.loop-range.range-index _ c.loop-range.part _ c.loop-range.rest.now (omega (arith, c.loop-range-test.false))
    c.loop-range.invariant c.in_ok-whole.ensures
