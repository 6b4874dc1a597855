use Rattle.dart_tokens.proofs.LawLemmas.{paired}
use Rattle.dart_tokens.proofs.laws.partners_are_mutual.Goals as goal

pub returns : goal.returns
returns c = paired c.args._tokens.now
