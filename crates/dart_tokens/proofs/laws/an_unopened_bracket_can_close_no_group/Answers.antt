use Rattle.dart_tokens.proofs.NearestLaws.{closes_nothing}
use Rattle.dart_tokens.proofs.laws.an_unopened_bracket_can_close_no_group.Goals as goal

pub returns : goal.returns
returns c = closes_nothing c.args._tokens.now
