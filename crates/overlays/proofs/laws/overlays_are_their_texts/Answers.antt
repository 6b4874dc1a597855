use Rattle.overlays.proofs.LookUps.{same_texts}
use Rattle.overlays.proofs.laws.overlays_are_their_texts.Goals as goal

pub returns : goal.returns
returns c = same_texts c.args.overlays.now c.args.others.now c.paths_are_in_order.ensures c.paths_are_in_order-2.ensures
