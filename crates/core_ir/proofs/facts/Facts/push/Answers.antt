use Rattle.std.proofs.Common.{◌<◌, List, sym, ap, subst, All}
use Rattle.core_ir.specs.PointFacts.{PointFacts}
use Rattle.core_ir.specs.declared.facts.SlotFact.{SlotFact}
use Rattle.core_ir.proofs.Paged.{pushed_order}
use Rattle.core_ir.proofs.facts.Facts.push.Goals as goal

-- the fact comes behind all that are listed
pub invariant_of-self-2 : goal.invariant_of-self-2
invariant_of-self-2 c = (
  pushed_order _ c.self.inside.own.items c.push.new.self.items c.args.fact c.self.invariant.0
      (subst (λ (l : List SlotFact). All (λ f. f.slot.0 < c.args.fact.slot.0) l) (sym (ap (λ (f : PointFacts). f.listed) c.self.view_is)) c.requires)
      c.in_ok-push.ensures.items,
  c.self.invariant.1,
  c.self.invariant.2,
  c.self.invariant.3,
)
