use Rattle.dart_tokens.proofs.LawLemmas.{nested}
use Rattle.dart_tokens.proofs.laws.groups_nest.Goals as goal

pub returns : goal.returns
returns c = nested c.args._tokens.now
