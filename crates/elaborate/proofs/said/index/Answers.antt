use Rattle.std.proofs.Common.{ap, arith}
use Rattle.elaborate.proofs.LookEntries.{indexes_none, indexes_step}
use Rattle.elaborate.proofs.said.index.Goals as goal

pub loop-i-init : goal.loop-i-init
loop-i-init c = indexes_none c.args.first c.args.count c.args.typed.now c.in_ok-entries.entries.items c.in_ok-entries.ensures

pub loop-i-preserved : goal.loop-i-preserved
loop-i-preserved c =
    indexes_step c.args.first c.args.count c.loop-i.i c.args.typed.now c.index-typed-i.result c.said.inside.node.0 c.loop-i.entries.items (omega arith) (omega arith)
    c.index-typed-i.is
    (ap (λ s. s.node.0) c.said.view_is)
    c.requires
    c.loop-i.invariant
