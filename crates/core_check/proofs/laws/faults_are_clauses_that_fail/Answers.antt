use Rattle.core_check.proofs.Clauses.{fine_at_is}
use Rattle.core_check.proofs.laws.faults_are_clauses_that_fail.Goals as goal

pub returns : goal.returns
returns c = fine_at_is c.equality_laws.ensures.types c.args._program.now
