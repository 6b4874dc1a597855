use Rattle.std.proofs.Common.{sym, ap, ◌∙◌, List, IsNone, subst}
use Rattle.std.specs.List.{insert}
use Rattle.std.proofs.lemmas.Result.{on_ok_weaker}
use Rattle.flow_model.specs.declared.locals.Facts.{Facts}
use Rattle.flow_model.specs.Flow.{FlowModel, fresh_facts, facts_of}
use Rattle.flow_model.proofs.Places.{not_none, insert_in_gap, order-insert, order-after}
use Rattle.flow_model.proofs.model.Flow.declare.Goals as goal

-- a local that stands somewhere is in scope
pub unreachable-requires : goal.unreachable-requires
unreachable-requires c =
    let same = ap (λ (m : FlowModel). m.locals) c.self.view_is in
    let absent = subst (λ (m : FlowModel). IsNone (facts_of m c.args.var.now.var)) (sym c.self.view_is) c.requires in
    not_none c.self.inside.locals c.self.invariant c.args.var.now.var c.in-Ok.field-0 (rw same c.in-Ok.ensures.found) c.in_ok-local.local absent

-- the local in its gap keeps the order
pub invariant_of-self : goal.invariant_of-self
invariant_of-self c =
    let same = ap (λ (m : FlowModel). m.locals) c.self.view_is in
    order-after c.insert.result c.insert.new.self (insert c.self.inside.locals c.in-Err.place c.in_ok-local.local) c.self.inside.locals c.insert.ensures.ok c.insert.ensures.err
    (order-insert c.self.inside.locals c.args.var.now.var c.in-Err.place (rw same c.in-Err.ensures.absent) c.in_ok-local.local (ap (λ (l : Facts). l.var.0) c.in_ok-local.ensures) c.self.invariant) c.self.invariant

-- the gap parts the locals by their numbers
pub returns-clause-ok : goal.returns-clause-ok
returns-clause-ok c =
    let same = ap (λ (m : FlowModel). m.locals) c.self.view_is in
    let fresh = ap (λ (l : Facts). insert c.self.inside.locals c.in-Err.place l) c.in_ok-local.ensures in
    let gap = insert_in_gap c.self.inside.locals c.args.var.now.var c.in-Err.place (rw same c.in-Err.ensures.absent) (fresh_facts c.args.var.now) in
    rw (← c.self.view_is)
    (on_ok_weaker c.insert.result (λ is. ap (λ (locals : List Facts). let m : FlowModel = record { reachable = c.self.inside.reachable; locals = locals } in m) (is ∙ (fresh ∙ gap))) c.insert.ensures.ok)
