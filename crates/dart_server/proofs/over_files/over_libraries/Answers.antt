use Rattle.dart_server.proofs.EndLemmas.{fault_output, memory_output}
use Rattle.dart_server.proofs.over_files.over_libraries.Goals as goal

pub returns-in_default-clause-output : goal.returns-in_default-clause-output
returns-in_default-clause-output g c = memory_output c.args.task c.args.file.now _ _ _ _

pub returns-in-Err-Failed-clause-output : goal.returns-in-Err-Failed-clause-output
returns-in-Err-Failed-clause-output g c = fault_output c.args.task c.args.file.now _ _ _ _

pub returns-clause-output : goal.returns-clause-output
returns-clause-output g c = memory_output c.args.task c.args.file.now _ _ _ _
