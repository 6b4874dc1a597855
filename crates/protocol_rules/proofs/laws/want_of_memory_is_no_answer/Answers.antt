use Rattle.protocol_rules.proofs.AppliedLemmas.{answer-no_memory, applied-no_memory}
use Rattle.protocol_rules.proofs.laws.want_of_memory_is_no_answer.Goals as goal

pub returns-clause-line : goal.returns-clause-line
returns-clause-line c = answer-no_memory c.args._line.now

pub returns-clause-update : goal.returns-clause-update
returns-clause-update c = applied-no_memory
