use Rattle.std.proofs.Common.{subst, sym, refl}
use Rattle.flow_model.specs.Flow.{IsInOrder}
use Rattle.flow_model.specs.Restrict.{restrict_facts}
use Rattle.flow_model.proofs.Pairs.{order-paired}
use Rattle.flow_model.proofs.model.Flow.restrict.Goals as goal

-- the locals are those at the front of the body's, so they stand in their order
pub invariant_of-result : goal.invariant_of-result
invariant_of-result c =
    let change = restrict_facts c.args.rows.now.table c.args.written.now c.args.captured.now in
    subst IsInOrder (sym c.in_ok-locals.ensures)
    (order-paired change (λ l m. refl) c.body.inside.locals c.block.inside.locals c.body.invariant)
