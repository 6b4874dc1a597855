use Rattle.std.proofs.Common.{sym, ap, ◌∙◌, subst}
use Rattle.overlays.specs.Tables.{IsInOrder, drop_text}
use Rattle.overlays.proofs.Order.{order-drop}
use Rattle.overlays.proofs.Places.{drop_there, drop_absent}
use Rattle.overlays.proofs.overlays.Overlays.remove.Goals as goal

-- the overlay at the path's place is removed
pub returns-in-Ok : goal.returns-in-Ok
returns-in-Ok c =
    let stands = rw (← c.self.view_is) at c.in-Ok.ensures.found in
    let there = drop_there c.args.path.now c.self.inside.entries.items c.in-Ok.place c.self.invariant stands in
    c.remove.ensures.items ∙ (sym there ∙ ap (drop_text c.args.path.now) c.self.view_is)

-- which keeps the order
pub invariant_of-self : goal.invariant_of-self
invariant_of-self c =
    subst IsInOrder (ap (drop_text c.args.path.now) c.self.view_is ∙ sym (returns-in-Ok c)) (order-drop c.args.path.now c.self.inside.entries.items c.self.invariant)

-- the path stands nowhere
pub returns-in_default : goal.returns-in_default
returns-in_default c = sym (drop_absent c.args.path.now c.args.self.now _ c.in_default.ensures.absent)
