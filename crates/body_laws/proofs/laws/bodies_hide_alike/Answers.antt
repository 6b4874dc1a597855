use Rattle.body_laws.proofs.Whole.{texts_hide}
use Rattle.body_laws.proofs.laws.bodies_hide_alike.Goals as goal

pub returns : goal.returns
returns c = texts_hide c.unit_laws.ensures.whole
