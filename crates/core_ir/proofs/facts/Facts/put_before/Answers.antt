use Rattle.std.proofs.Common.{◌≡◌, List, [], ap, ◌∙◌, arith, refl, subst}
use Rattle.core_ir.specs.PointFacts.{PointFacts, AreInOrder, put}
use Rattle.core_ir.specs.declared.facts.SlotFact.{SlotFact}
use Rattle.core_ir.proofs.Puts.{put_order}
use Rattle.core_ir.proofs.facts.Facts.put_before.Goals as goal

-- no page is left
pub invariant_of-self : goal.invariant_of-self
invariant_of-self c =
    let order : AreInOrder (put c.args.self.now.listed c.args.fact) =
    put_order c.args.self.now.listed c.args.fact (subst AreInOrder (ap (λ (f : PointFacts). f.listed) c.self.view_is) c.self.invariant.0) in
    let made : c.put_in.new.listed.items ≡ put c.args.self.now.listed c.args.fact = c.in_ok-put_in.ensures ∙ ap (λ (l : List SlotFact). put l c.args.fact) c.in_ok-listed.ensures in
    let none : c.in_ok-self-inside.field-0.value.items ≡ [] = ap (λ v. v.items) c.in_ok-self-inside.ensures.ok ∙ c.new.ensures.items in
    rw (none, made) (order, (λ k d lt. absurd (omega arith)), refl, omega arith)
