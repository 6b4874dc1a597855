use Rattle.dart_server.proofs.WritesLemmas.{refused_text}
use Rattle.dart_server.proofs.output.say.Goals as goal

pub returns-in_err-write_all_of-clause-writes : goal.returns-in_err-write_all_of-clause-writes
returns-in_err-write_all_of-clause-writes g c = refused_text _ _ _ _ c.from_residual.result c.from_residual.ensures.0 c.in_err-write_all_of.ensures.part
