use Rattle.segment_faults.proofs.Around.{goes_on_at}
use Rattle.segment_faults.proofs.laws.groups_begin_and_end.Goals as goal

pub returns-clause-go_on : goal.returns-clause-go_on
returns-clause-go_on c = λ place t ts e. goes_on_at place c.args._text.now ts t e
