use Rattle.std.proofs.Common.{◌≤◌, length, ◌∙◌, arith}
use Rattle.flow_model.proofs.Paged.{take_min}
use Rattle.flow_model.proofs.pages.Locals.front.Goals as goal

-- none is left to take out
pub returns : goal.returns
returns c =
    let within : c.loop-left._left ≤ length c.args.self.now = omega (arith, c.loop-left.auto._left, c.len-left.ensures) in
    c.loop-left.invariant.0 ∙ take_min c.loop-left._left c.args.count c.args.self.now c.loop-left-test.false within c.loop-left.invariant.1
