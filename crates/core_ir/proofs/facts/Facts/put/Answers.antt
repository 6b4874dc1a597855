use Rattle.std.proofs.Common.{◌≡◌, ◌<◌, List, sym, subst, All}
use Rattle.std.specs.Prelude.{OnOk}
use Rattle.core_ir.specs.declared.facts.SlotFact.{SlotFact}
use Rattle.core_ir.proofs.Puts.{put_last}
use Rattle.core_ir.proofs.facts.Facts.put.Goals as goal

-- behind all that are listed the facts with one more at the end are those with it at its place
pub returns-then-takes-clause-ok : goal.returns-then-takes-clause-ok
returns-then-takes-clause-ok c =
    let behind : All (λ (f : SlotFact). f.slot.0 < c.args.fact.slot.0) c.args.self.now.listed =
    subst (λ (g : SlotFact). All (λ (f : SlotFact). f.slot.0 < g.slot.0) c.args.self.now.listed) c.fact.ensures (c.takes.ensures.0 c.if-takes.true) in
    subst (λ (l : List SlotFact). OnOk c.push.result (c.push.new.self ≡ record { reachable = c.args.self.now.reachable; listed = l })) (sym (put_last c.args.self.now.listed c.args.fact behind)) c.push.ensures.ok
