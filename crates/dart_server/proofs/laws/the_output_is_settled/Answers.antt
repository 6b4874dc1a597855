use Rattle.dart_server.proofs.SettledLemmas.{output_settled}
use Rattle.dart_server.proofs.laws.the_output_is_settled.Goals as goal

pub returns : goal.returns
returns c = output_settled
