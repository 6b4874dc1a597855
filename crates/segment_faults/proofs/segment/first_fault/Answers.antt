use Rattle.std.proofs.Common.{◌≡◌, suc, ◌+◌, ◌-◌, Some, None, arith}
use Rattle.segment_faults.specs.Table.{fault_at}
use Rattle.segment_faults.proofs.Firsts.{fault_goes_on, fault_is_found}
use Rattle.segment_faults.proofs.segment.first_fault.Goals as goal

pub returns-in-Some : goal.returns-in-Some
returns-in-Some c =
    let place = c.loop-place.place in
    let end = c.args.first + c.args.count in
    let below = c.loop-place-test.true in
    let left : end - place ≡ suc (end - (place + 1)) = omega (arith, below) in
    let found : fault_at c.args.tokens.now c.args.first place ≡ Some c.in-Some.fault = let a = c.fault_at.ensures in let b = c.in-Some.is in cc in
    fault_is_found c.args.tokens.now c.args.first place (end - place) (end - (place + 1)) c.in-Some.fault _ left found c.loop-place.invariant

pub loop-place-preserved : goal.loop-place-preserved
loop-place-preserved c =
    let place = c.loop-place.place in
    let end = c.args.first + c.args.count in
    let below = c.loop-place-test.true in
    let left : end - place ≡ suc (end - (place + 1)) = omega (arith, below) in
    let none : fault_at c.args.tokens.now c.args.first place ≡ None = let a = c.fault_at.ensures in let b = c.in_default.is in cc in
    fault_goes_on c.args.tokens.now c.args.first place (end - place) (end - (place + 1)) _ left none c.loop-place.invariant
