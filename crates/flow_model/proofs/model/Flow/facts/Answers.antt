use Rattle.std.proofs.Common.{◌∙◌, sym, ap, Some}
use Rattle.flow_model.specs.declared.locals.Facts.{Facts}
use Rattle.flow_model.specs.Flow.{FlowModel}
use Rattle.flow_model.proofs.Places.{find_there, find_absent}
use Rattle.flow_model.proofs.model.Flow.facts.Goals as goal

-- the local stands at the place that was read
pub returns-in-Ok : goal.returns-in-Ok
returns-in-Ok c =
    let same = ap (λ (m : FlowModel). m.locals) c.self.view_is in
    let there = find_there c.self.inside.locals c.self.invariant c.args.var c.in-Ok.place (rw same c.in-Ok.ensures.found) c.at.result.now in
    rw (← c.self.view_is) (ap (λ (l : Facts). Some l) (c.facts.ensures ∙ c.at.ensures) ∙ sym there)

-- the local stands nowhere
pub returns-in-Err : goal.returns-in-Err
returns-in-Err c = sym (find_absent _ c.args.var _ c.in-Err.ensures.absent)
