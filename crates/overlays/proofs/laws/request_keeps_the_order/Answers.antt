use Rattle.overlays.proofs.Requests.{order-applied}
use Rattle.overlays.proofs.laws.request_keeps_the_order.Goals as goal

pub returns : goal.returns
returns c = order-applied c.args._files.now c.args.overlays.now c.paths_are_in_order.ensures
