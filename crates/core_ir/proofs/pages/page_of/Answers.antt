use Rattle.std.proofs.Common.{◌≡◌, suc, ◌<◌, get_or, subst, arith}
use Rattle.core_ir.proofs.Paged.{ends_before}
use Rattle.core_ir.proofs.pages.page_of.Goals as goal

-- the higher page comes next
pub returns-clause-ends : goal.returns-clause-ends
returns-clause-ends c none =
    let apart = c.loop-high.invariant.apart in
    let inside = c.loop-high.invariant.inside in
    let stop = c.loop-high-test.false in
    let next : c.loop-high.high ≡ suc c.loop-high.low = omega arith in
    ends_before _ (λ page. page.before) (λ page. page.facts.value.items) c.args.pages.now c.requires.counted c.args.place c.loop-high.low (omega arith) none c.requires.within
    (λ lt. subst (λ n. c.args.place < (get_or c.args.pages.now n none).before) next (c.loop-high.invariant.ends (omega arith) none))
