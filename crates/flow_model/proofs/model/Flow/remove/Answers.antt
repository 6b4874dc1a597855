use Rattle.std.proofs.Common.{sym, ap, ◌∙◌, ◌<◌, List}
use Rattle.std.specs.List.{remove}
use Rattle.std.proofs.lemmas.List.Quantifiers.{all_pairs_remove}
use Rattle.flow_model.specs.declared.locals.Facts.{Facts}
use Rattle.flow_model.specs.Flow.{FlowModel}
use Rattle.flow_model.specs.Place.{StandsAt}
use Rattle.flow_model.proofs.Places.{filter_there, filter_absent, order-after}
use Rattle.flow_model.proofs.model.Flow.remove.Goals as goal

-- without a local the others stand in their order
pub invariant_of-self : goal.invariant_of-self
invariant_of-self c =
    let same = ap (λ (m : FlowModel). m.locals) c.self.view_is in
    let stands : StandsAt c.self.inside.locals c.args.var c.in-Ok.place = rw same c.in-Ok.ensures.found in
    order-after c.remove.result c.remove.new.self (remove c.self.inside.locals c.in-Ok.place) c.self.inside.locals c.remove.ensures.ok c.remove.ensures.err
    (all_pairs_remove (λ (l m : Facts). l.var.0 < m.var.0) c.self.inside.locals c.in-Ok.place stands.in_range c.self.invariant) c.self.invariant

-- what stands at its place is the local's
pub returns-in_ok-remove : goal.returns-in_ok-remove
returns-in_ok-remove c =
    let same = ap (λ (m : FlowModel). m.locals) c.self.view_is in
    let there = filter_there c.self.inside.locals c.self.invariant c.args.var c.in-Ok.place (rw same c.in-Ok.ensures.found) in
    rw (← c.self.view_is) (ap (λ (locals : List Facts). let m : FlowModel = record { reachable = c.self.inside.reachable; locals = locals } in m) (c.in_ok-remove.ensures.ok ∙ sym there))

-- the local stands nowhere
pub returns-in_default : goal.returns-in_default
returns-in_default c =
    ap (λ (locals : List Facts). let m : FlowModel = record { reachable = c.args.self.now.reachable; locals = locals } in m)
    (sym (filter_absent c.args.self.now.locals c.args.var _ c.in_default.ensures.absent))
