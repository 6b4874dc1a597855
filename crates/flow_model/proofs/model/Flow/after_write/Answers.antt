use Rattle.std.proofs.Common.{◌≡◌, get_or, rules, ap, ◌∙◌, subst}
use Rattle.flow_model.specs.Assign.{assign_facts}
use Rattle.flow_model.specs.declared.locals.Facts.{Facts}
use Rattle.flow_model.specs.Flow.{FlowModel, IsInOrder, at_local}
use Rattle.flow_model.specs.Place.{with_facts, StandsAt, WouldStandAt}
use Rattle.flow_model.proofs.Places.{map_absent}
use Rattle.flow_model.proofs.Scopes.{with_locals}
use Rattle.flow_model.proofs.SharedSteps.{changed_there}
use Rattle.flow_model.proofs.model.Flow.after_write.Goals as goal

-- the change at its place is the change of the local
pub returns-in_ok-model-in-Ok : goal.returns-in_ok-model-in-Ok
returns-in_ok-model-in-Ok c =
    let m = c.args.before.now.value in
    let change = assign_facts c.args.rows.now.table c.args.written.now in
    let l = c.local.result.now in
    let order : IsInOrder m.locals = subst (λ (k : FlowModel). IsInOrder k.locals) c.deref-known.ensures c.locals_are_in_order.ensures in
    let stands : StandsAt m.locals c.args.var c.in-Ok.place = subst (λ (k : FlowModel). StandsAt k.locals c.args.var c.in-Ok.place) c.deref-known.ensures c.in-Ok.ensures.found in
    let is : l ≡ get_or m.locals c.in-Ok.place l = c.local.ensures ∙ ap (λ (k : FlowModel). get_or k.locals c.in-Ok.place l) c.deref-known.ensures in
    c.in_ok-model-in-Ok.ensures
    ∙ ap (λ (f : Facts). with_facts m c.in-Ok.place f) c.in_ok-facts-in-Ok.ensures
    ∙ changed_there m order c.args.var c.in-Ok.place stands l is change

-- a local that stands nowhere is passed over
pub returns-in-Err : goal.returns-in-Err
returns-in-Err c =
    let m = c.args.before.now.value in
    let change = assign_facts c.args.rows.now.table c.args.written.now in
    let absent : WouldStandAt m.locals c.args.var c.in-Err.field-0 = subst (λ (k : FlowModel). WouldStandAt k.locals c.args.var c.in-Err.field-0) c.deref-known.ensures c.in-Err.ensures.absent in
    let kept : at_local m c.args.var change ≡ m = ap (with_locals m.reachable) (map_absent m.locals c.args.var c.in-Err.field-0 absent change) in
    rw kept (search rules)
