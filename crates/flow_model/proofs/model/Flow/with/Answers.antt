use Rattle.std.proofs.Common.{◌≡◌, List, get_or, set, sym, ap, ◌∙◌, subst}
use Rattle.flow_model.specs.declared.locals.Facts.{Facts}
use Rattle.flow_model.specs.Flow.{FlowModel, IsInOrder}
use Rattle.flow_model.proofs.Places.{order-set}
use Rattle.flow_model.proofs.model.Flow.with.Goals as goal

-- the locals are the same
pub invariant_of-result : goal.invariant_of-result
invariant_of-result c =
    let locals = c.self.inside.locals in
    let place = c.args.place in
    let seen = ap (λ (m : FlowModel). m.locals) c.self.view_is in
    let same_local : (d : Facts) → c.args.facts.var.0 ≡ (get_or locals place d).var.0 = λ d. subst (λ (ls : List Facts). c.args.facts.var.0 ≡ (get_or ls place d).var.0) (sym seen) (c.requires.same_local d) in
    let written : c.write.new.self ≡ set locals place c.args.facts =
    c.in_ok-write.ensures.ok
    ∙ ap (λ (ls : List Facts). set ls place c.in_ok-local.local) c.in_ok-locals.ensures
    ∙ ap (λ (l : Facts). set locals place l) c.in_ok-local.ensures in
    subst IsInOrder (sym written) (order-set locals place c.args.facts same_local c.self.invariant)
