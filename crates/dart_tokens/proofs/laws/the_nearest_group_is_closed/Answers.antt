use Rattle.dart_tokens.proofs.NearestLaws.{closes_nearest}
use Rattle.dart_tokens.proofs.laws.the_nearest_group_is_closed.Goals as goal

pub returns : goal.returns
returns c = closes_nearest c.args._tokens.now
