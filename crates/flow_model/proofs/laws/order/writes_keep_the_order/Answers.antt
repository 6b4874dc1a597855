use Rattle.std.proofs.Common.{refl}
use Rattle.flow_model.specs.Assign.{assign_facts}
use Rattle.flow_model.proofs.SaysMore.{assign_keeps}
use Rattle.flow_model.proofs.Implied.{at_local_implies}
use Rattle.flow_model.proofs.Currents.{tested_alike, kept_alike}
use Rattle.flow_model.proofs.laws.order.writes_keep_the_order.Goals as goal

pub returns : goal.returns
returns c =
    let table = c.args._rows.now.table in
    λ a b var written tested kept.
    at_local_implies var (assign_facts table written) (assign_facts table written) (λ l. refl) (λ l. refl) a b
    (λ l m is_l is_m. assign_keeps table written l m (tested_alike a b var tested l m is_l is_m) (kept_alike table written a b var kept l m is_l is_m))
