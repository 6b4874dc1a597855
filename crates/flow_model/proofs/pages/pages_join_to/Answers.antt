use Rattle.std.proofs.Common.{◌≡◌, ◌<◌, true, List, length, get_or, add-one, sym, subst, arith}
use Rattle.flow_model.specs.declared.locals.Facts.{Facts}
use Rattle.flow_model.proofs.Meetings.{one_more_page_joins}
use Rattle.flow_model.proofs.pages.pages_join_to.Goals as goal

-- one page more
pub loop-i-preserved : goal.loop-i-preserved
loop-i-preserved c =
    let pages = c.args.pages.now in
    let others = c.args.others.now in
    let i = c.loop-i.i in
    let p = c.locals.result.now in
    let q = c.locals-in-loop-i.result.now in
    let is_p : p ≡ get_or pages i p = subst (λ (page : List Facts). page ≡ get_or pages i page) (sym c.locals.ensures) c.index-pages-i.is in
    let is_q : q ≡ get_or others i q = subst (λ (page : List Facts). page ≡ get_or others i page) (sym c.locals-in-loop-i.ensures) c.index-others-i.is in
    let in_pages : i < length pages = omega (arith, c.loop-i-test.true) in
    let in_others : i < length others = omega (arith, c.loop-i-test.true, c.if-pages-others.false) in
    let holds : c.all_join_to.result ≡ true = grind (arith, c.if-not-all_join_to.false) in
    rw add-one (one_more_page_joins c.args.path pages others i p q in_pages in_others is_p is_q (c.all_join_to.ensures holds) c.loop-i.invariant)
