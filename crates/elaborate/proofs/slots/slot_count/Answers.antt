use Rattle.std.proofs.Common.{List, drop, sym, ap, ◌∙◌, arith}
use Rattle.judgement.specs.NodeFacts.{NodeFacts}
use Rattle.rule_laws.specs.Keys.{numbers_said}
use Rattle.elaborate.specs.Elaborated.{past_all}
use Rattle.elaborate.proofs.LookSlots.{from_before}
use Rattle.elaborate.proofs.slots.slot_count.Goals as goal

pub loop-i-preserved : goal.loop-i-preserved
loop-i-preserved c =
    c.past_node-past.ensures (numbers_said (drop c.loop-i.i c.args.typed.now)) c.loop-i.invariant
    ∙ ap (λ (nodes : List NodeFacts). past_all (numbers_said nodes)) (sym (from_before c.args.typed.now c.loop-i.i c.index-typed-i.result (omega arith) (omega arith) c.index-typed-i.is))
