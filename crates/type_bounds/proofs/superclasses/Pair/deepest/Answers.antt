use Rattle.std.proofs.Common.{Some, subst}
use Rattle.type_bounds.specs.Above.{depth_in, HasNoneUnder, IsTopUnder}
use Rattle.type_bounds.proofs.General.{refused}
use Rattle.type_bounds.proofs.Deepest.{none_left, next_above}
use Rattle.type_bounds.proofs.superclasses.Pair.deepest.Goals as goal

-- nothing is left below the last depth, at which none is alone
pub returns-in-None-top_under : goal.returns-in-None-top_under
returns-in-None-top_under c =
    let p = c.args.self.now in
    let top = c.loop-limit.top.now in
    let none : HasNoneUnder p (Some c.depth-limit.result) = c.in-None-top_under.ensures in
    none_left p top c.loop-limit.invariant.0 c.loop-limit.invariant.1 c.loop-limit.invariant.2 (refused c.is_alone.ensures c.loop-limit-test.true)
    (subst (λ limit. HasNoneUnder p (Some limit)) c.depth-limit.ensures none)

pub loop-limit-preserved : goal.loop-limit-preserved
loop-limit-preserved c =
    let p = c.args.self.now in
    let top = c.loop-limit.top.now in
    let next = c.in-Some-top_under.next.now in
    let found : IsTopUnder p (Some c.depth-limit.result) next = c.in-Some-top_under.ensures in
    let under : IsTopUnder p (Some (depth_in p top)) next = subst (λ limit. IsTopUnder p (Some limit) next) c.depth-limit.ensures found in
    (under.stands, under.shared, next_above p top c.loop-limit.invariant.0 c.loop-limit.invariant.1 c.loop-limit.invariant.2 (refused c.is_alone.ensures c.loop-limit-test.true) next under)
