use Rattle.core_machine.proofs.WrongLemmas.{argument_wrong, condition_wrong, reads_nothing_wrong, receiver_wrong, row_declares, stores_misfit_wrong}
use Rattle.core_machine.proofs.laws.misuse_goes_wrong.Goals as goal

pub returns : goal.returns
returns c = record {
  read = reads_nothing_wrong c.args._program.now;
  stored = stores_misfit_wrong c.args._program.now;
  receiver = receiver_wrong c.args._program.now;
  argument = argument_wrong c.args._program.now;
  condition = condition_wrong c.args._program.now;
  written = row_declares c.args._program.now;
}
