use Rattle.std.proofs.Common.{sym, ap, ◌∙◌, subst, set}
use Rattle.std.specs.List.{insert}
use Rattle.overlays.specs.Tables.{IsInOrder, put_text}
use Rattle.overlays.proofs.Order.{order-put}
use Rattle.overlays.proofs.Places.{put_there, put_absent}
use Rattle.overlays.proofs.overlays.Overlays.put.Goals as goal

-- the overlay at the path's place is written over
pub returns-in-Ok-clause-ok : goal.returns-in-Ok-clause-ok
returns-in-Ok-clause-ok c =
    let stands = rw (← c.self.view_is, c.as_str.ensures) at c.in-Ok.ensures.found in
    let there = put_there c.args.path.now c.args.text c.self.inside.entries.items c.in-Ok.place c.self.invariant stands in
    ap (set c.self.inside.entries.items c.in-Ok.place) c.in_ok-entry.ensures ∙ (sym there ∙ ap (put_text c.args.path.now c.args.text) c.self.view_is)

-- or a new one goes into the gap
pub returns-in_ok-insert-in-Err-clause-ok : goal.returns-in_ok-insert-in-Err-clause-ok
returns-in_ok-insert-in-Err-clause-ok c =
    let gap = rw (← c.self.view_is, c.as_str.ensures) at c.in-Err.ensures.absent in
    let there = put_absent c.args.path.now c.args.text c.self.inside.entries.items c.in-Err.place gap in
    c.in_ok-insert-in-Err.ensures.items ∙ (ap (insert c.self.inside.entries.items c.in-Err.place) c.in_ok-entry.ensures ∙ (sym there ∙ ap (put_text c.args.path.now c.args.text) c.self.view_is))

-- both keep the order
pub invariant_of-self : goal.invariant_of-self
invariant_of-self c =
    subst IsInOrder (ap (put_text c.args.path.now c.args.text) c.self.view_is ∙ sym (returns-in-Ok-clause-ok c)) (order-put c.args.path.now c.args.text c.self.inside.entries.items c.self.invariant)

pub invariant_of-self-in-Err : goal.invariant_of-self-in-Err
invariant_of-self-in-Err c =
    subst IsInOrder (ap (put_text c.args.path.now c.args.text) c.self.view_is ∙ sym (returns-in_ok-insert-in-Err-clause-ok c)) (order-put c.args.path.now c.args.text c.self.inside.entries.items c.self.invariant)
