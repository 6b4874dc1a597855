use Rattle.core_emit.proofs.Sizes.{points_made}
use Rattle.core_emit.proofs.laws.code_has_its_points.Goals as goal

pub returns : goal.returns
returns c = points_made
