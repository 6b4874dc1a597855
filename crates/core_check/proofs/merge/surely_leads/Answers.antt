use Rattle.std.proofs.Common.{refl, ap, sym, ◌∙◌}
use Rattle.core_check.specs.Shapes.{WayShape}
use Rattle.core_check.proofs.Walks.{leads_from}
use Rattle.core_check.proofs.merge.surely_leads.Goals as goal

-- both lists and the changes were walked through
pub returns : goal.returns
returns c =
    let changes = ap (λ (w : WayShape). w.changes) c.way.view_is in
    λ sure. leads_from _ _ _ _ c.args.after.now _ _ c.args.facts.now.listed c.args.after.now.listed c.requires.after_is (sym c.is_reachable.ensures ∙ c.if-not-is_reachable.false)
    (c.deref.ensures.value ∙ changes) (c.deref-2.ensures.value ∙ changes) refl refl
    (c.lists_imply.ensures c.if-not-lists_imply.false) (c.in_ok-sure.ensures sure)
