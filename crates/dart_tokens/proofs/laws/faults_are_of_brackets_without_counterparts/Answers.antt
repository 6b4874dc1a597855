use Rattle.dart_tokens.proofs.FaultLaws.{unclosed, unopened}
use Rattle.dart_tokens.proofs.laws.faults_are_of_brackets_without_counterparts.Goals as goal

pub returns : goal.returns
returns c = record { unclosed = unclosed c.args._tokens.now; unopened = unopened c.args._tokens.now }
