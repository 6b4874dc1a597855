use Rattle.std.proofs.Common.{Some}
use Rattle.type_infer.specs.Ways.{stands}
use Rattle.type_infer.proofs.ways.standing.Goals as goal

pub returns-in-Stands : goal.returns-in-Stands
returns-in-Stands c = c.loop-next.invariant (Some c.loop-next.left.now) (stands c.in-Stands.ensures)
