use Rattle.dart_server.proofs.ServedLemmas.{replies_settled}
use Rattle.dart_server.proofs.laws.replies_are_settled.Goals as goal

pub returns : goal.returns
returns c = replies_settled
