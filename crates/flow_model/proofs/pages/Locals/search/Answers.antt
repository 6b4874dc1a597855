use Rattle.std.proofs.Common.{◌≡◌, ◌<◌, ◌+◌, ◌-◌, ◌/◌, length, ap, arith}
use Rattle.flow_model.specs.declared.locals.Facts.{Facts}
use Rattle.flow_model.proofs.Places.{smaller_up_to, greater_from}
use Rattle.flow_model.proofs.pages.Locals.search.Goals as goal

-- the local stands behind the middle
pub loop-low-preserved-then-number-var-2 : goal.loop-low-preserved-then-number-var-2
loop-low-preserved-then-number-var-2 c =
    let middle = c.loop-low.low + (c.loop-low.high - c.loop-low.low) / 2 in
    let number : c.facts.result.now.var.0 ≡ c.at.result.now.var.0 = ap (λ (f : Facts). f.var.0) c.facts.ensures in
    let within : middle < length c.args.self.now = omega (arith, c.loop-low-test.true, c.loop-low.invariant.0, c.loop-low.invariant.1) in
    let smaller : c.at.result.now.var.0 < c.args.var.0 = omega (arith, number, c.if-number-var-2.true) in
    (omega (arith, c.loop-low-test.true), c.loop-low.invariant.1, smaller_up_to c.args.self.now c.requires c.args.var middle c.at.result.now within c.at.ensures smaller, c.loop-low.invariant.3)

-- or before it
pub loop-low-preserved : goal.loop-low-preserved
loop-low-preserved c =
    let middle = c.loop-low.low + (c.loop-low.high - c.loop-low.low) / 2 in
    let number : c.facts.result.now.var.0 ≡ c.at.result.now.var.0 = ap (λ (f : Facts). f.var.0) c.facts.ensures in
    let within : middle < length c.args.self.now = omega (arith, c.loop-low-test.true, c.loop-low.invariant.0, c.loop-low.invariant.1) in
    let greater : c.args.var.0 < c.at.result.now.var.0 = grind (arith, number, c.if-number-var.false, c.if-number-var-2.false) in
    (omega arith, omega (arith, within), c.loop-low.invariant.2, greater_from c.args.self.now c.requires c.args.var middle c.at.result.now within c.at.ensures greater)
