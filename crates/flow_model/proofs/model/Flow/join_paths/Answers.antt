use Rattle.std.proofs.Common.{subst, sym, refl}
use Rattle.flow_model.specs.Flow.{IsInOrder}
use Rattle.flow_model.specs.Join.{join_facts}
use Rattle.flow_model.proofs.Pairs.{order-paired}
use Rattle.flow_model.proofs.model.Flow.join_paths.Goals as goal

-- the joined locals are those at the front of the first path, so they stand in their order
pub invariant_of-result : goal.invariant_of-result
invariant_of-result c =
    subst IsInOrder (sym c.in_ok-locals.ensures)
    (order-paired join_facts (λ l m. refl) c.a.inside.locals c.b.inside.locals c.a.invariant)
