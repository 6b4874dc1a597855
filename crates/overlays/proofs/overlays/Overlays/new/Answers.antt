use Rattle.std.proofs.Common.{subst, sym}
use Rattle.overlays.specs.Tables.{IsInOrder}
use Rattle.overlays.proofs.Order.{none_in_order}
use Rattle.overlays.proofs.overlays.Overlays.new.Goals as goal

-- no texts are in order
pub invariant_of-result : goal.invariant_of-result
invariant_of-result c = subst IsInOrder (sym c.new.ensures.items) none_in_order
