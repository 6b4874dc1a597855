use Rattle.std.proofs.Common.{sym, ap, ◌∙◌, set}
use Rattle.std.proofs.lemmas.Result.{on_ok_weaker}
use Rattle.flow_model.specs.declared.locals.Facts.{Facts}
use Rattle.flow_model.specs.Flow.{FlowModel}
use Rattle.flow_model.specs.Promote.{non_null_facts}
use Rattle.flow_model.proofs.Places.{map_there, map_absent}
use Rattle.flow_model.proofs.Scopes.{with_locals}
use Rattle.flow_model.proofs.model.Flow.non_null.Goals as goal

-- the change at its place is the change of the local
pub returns-in_ok-changed-in-Ok-clause-ok : goal.returns-in_ok-changed-in-Ok-clause-ok
returns-in_ok-changed-in-Ok-clause-ok c =
    let same = ap (λ (m : FlowModel). m.locals) c.self.view_is in
    let change = non_null_facts c.args.rows.now.table in
    let there = map_there c.self.inside.locals c.self.invariant c.args.var c.in-Ok.place (rw same c.in-Ok.ensures.found) change c.at.result.now in
    let made = c.in_ok-changed-in-Ok.ensures in
    let read = ap (λ (l : Facts). set c.self.inside.locals c.in-Ok.place (change l)) c.at.ensures in
    rw (← c.self.view_is)
    (on_ok_weaker c.put.result (λ is. ap (with_locals c.self.inside.reachable) (is ∙ (ap (λ (l : Facts). set c.self.inside.locals c.in-Ok.place l) made ∙ (read ∙ sym there)))) c.put.ensures.ok)

-- a local that stands nowhere is passed over
pub returns-in-Err-clause-ok : goal.returns-in-Err-clause-ok
returns-in-Err-clause-ok c =
    let change = non_null_facts c.args.rows.now.table in
    ap (with_locals c.args.self.now.reachable)
    (sym (map_absent c.args.self.now.locals c.args.var c.in-Err.field-0 c.in-Err.ensures.absent change))
