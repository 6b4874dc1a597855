use Rattle.std.proofs.Common.{sym, ap, ◌∙◌, set}
use Rattle.flow_model.specs.declared.locals.Facts.{Facts}
use Rattle.flow_model.specs.Flow.{FlowModel}
use Rattle.flow_model.proofs.Scopes.{with_locals}
use Rattle.flow_model.proofs.Forgets.{after_capture, capture_there, capture_absent}
use Rattle.flow_model.proofs.model.Flow.forget_captured.Goals as goal

-- what stands at its place is the local's
pub returns-in_ok-put : goal.returns-in_ok-put
returns-in_ok-put c =
    let same = ap (λ (m : FlowModel). m.locals) c.self.view_is in
    let there = capture_there c.self.inside.locals c.self.invariant c.args.var c.in-Ok.place (rw same c.in-Ok.ensures.found) c.at.result.now in
    let made = c.in_ok-changed.ensures in
    let read = ap (λ (l : Facts). set c.self.inside.locals c.in-Ok.place (after_capture l)) c.at.ensures in
    rw (← c.self.view_is) (ap (with_locals c.self.inside.reachable) (c.in_ok-put.ensures.ok ∙ ap (λ (l : Facts). set c.self.inside.locals c.in-Ok.place l) made ∙ (read ∙ sym there)))

-- a local that stands nowhere is passed over
pub returns-in_default : goal.returns-in_default
returns-in_default c =
    ap (with_locals c.args.self.now.reachable)
    (sym (capture_absent c.args.self.now.locals c.args.var c.in_default.field-0 c.in_default.ensures.absent))
