use Rattle.std.proofs.Common.{◌≡◌, ◌<◌, ℕ, suc, ◌+◌, ◌-◌, nat_lt, length, false, sym, ◌∙◌, arith}
use Rattle.segment_faults.specs.Nesting.{groups_around}
use Rattle.segment_faults.proofs.Firsts.{any_goes_on}
use Rattle.segment_faults.proofs.nesting.is_deep.Goals as goal

pub loop-place-preserved : goal.loop-place-preserved
loop-place-preserved c =
    let text = c.args.tokens.now in
    let place = c.loop-place.place in
    let end = c.args.first + c.args.count in
    let below = c.loop-place-test.true in
    let within = c.requires.within in
    let there : place < length text = omega (arith, below, within) in
    let left : end - place ≡ suc (end - (place + 1)) = omega (arith, below) in
    let shallow : nat_lt 100 (groups_around place text) ≡ false = sym (c.requires.deep.each place there) ∙ c.if-deep-place.false in
    any_goes_on (λ (p : ℕ). nat_lt 100 (groups_around p text)) place (end - place) (end - (place + 1)) _ left shallow c.loop-place.invariant
