use Rattle.core_machine.proofs.RunLemmas.{step_stays, run_stays}
use Rattle.core_machine.proofs.laws.a_run_that_is_over_stays.Goals as goal

pub returns : goal.returns
returns c = record { step = λ s t comes over. step_stays c.args._program.now t over; run = run_stays c.args._program.now }
