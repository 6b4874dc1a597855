use Rattle.core_check.proofs.Puts.{known_put}
use Rattle.core_check.proofs.laws.put_tells.Goals as goal

pub returns : goal.returns
returns c = known_put
