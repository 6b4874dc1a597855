use Rattle.std.proofs.Common.{◌≡◌, [], false, get_or, sym, ap, subst, arith}
use Rattle.std.proofs.lemmas.Grind.{common_steps}
use Rattle.flow_model.specs.declared.locals.Facts.{Facts}
use Rattle.flow_model.specs.Flow.{FlowModel}
use Rattle.flow_model.specs.Place.{StandsAt}
use Rattle.flow_model.proofs.Scopes.{with_locals}
use Rattle.flow_model.proofs.Forgets.{write_absent}
use Rattle.flow_model.proofs.SharedSteps.{kept_by_write}
use Rattle.flow_model.proofs.model.Flow.is_kept_by_write.Goals as goal

-- what stands at its place is promoted to nothing and may have a value
pub returns-then-is_empty : goal.returns-then-is_empty
returns-then-is_empty c = λ free.
    let same = ap (λ (m : FlowModel). m.locals) c.self.view_is in
    let locals = c.self.inside.locals in
    let stands : StandsAt locals c.args.var c.in-Ok.place = rw same c.in-Ok.ensures.found in
    let l = c.facts-facts.result.now in
    let is : l ≡ get_or locals c.in-Ok.place l = subst (λ (f : Facts). f ≡ get_or locals c.in-Ok.place f) (sym c.facts-facts.ensures) c.at.ensures in
    let chain : l.chain ≡ [] = grind (arith, common_steps) in
    let unassigned : l.unassigned ≡ false = grind (arith, free) in
    rw (← c.self.view_is) (kept_by_write (with_locals c.self.inside.reachable locals) c.self.invariant c.args.var c.in-Ok.place stands l is chain unassigned)

-- a local that stands nowhere is passed over
pub returns-in-Err : goal.returns-in-Err
returns-in-Err c = λ _.
    ap (with_locals c.args.self.now.reachable)
    (write_absent c.args.self.now.locals c.args.var c.in-Err.field-0 c.in-Err.ensures.absent)
