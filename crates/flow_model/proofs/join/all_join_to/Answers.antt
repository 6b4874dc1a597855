use Rattle.std.proofs.Common.{◌≡◌, ◌<◌, true, length, get_or, add-one, sym, subst, arith}
use Rattle.flow_model.specs.declared.locals.Facts.{Facts}
use Rattle.flow_model.proofs.Meetings.{one_more_joins}
use Rattle.flow_model.proofs.join.all_join_to.Goals as goal

-- one local more
pub loop-i-preserved : goal.loop-i-preserved
loop-i-preserved c =
    let a = c.args.a.now in
    let b = c.args.b.now in
    let i = c.loop-i.i in
    let l = c.facts.result.now in
    let m = c.facts-in-loop-i.result.now in
    let is_l : l ≡ get_or a i l = subst (λ (f : Facts). f ≡ get_or a i f) (sym c.facts.ensures) c.index-a-i.is in
    let is_m : m ≡ get_or b i m = subst (λ (f : Facts). f ≡ get_or b i f) (sym c.facts-in-loop-i.ensures) c.index-b-i.is in
    let in_a : i < length a = omega (arith, c.loop-i-test.true) in
    let in_b : i < length b = omega (arith, c.loop-i-test.true, c.if-a-b.false) in
    let holds : c.join_to.result ≡ true = grind (arith, c.if-not-join_to.false) in
    rw add-one (one_more_joins c.args.path a b i l m in_a in_b is_l is_m (c.join_to.ensures holds) c.loop-i.invariant)
