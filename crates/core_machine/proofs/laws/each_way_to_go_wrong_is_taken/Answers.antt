use Rattle.core_machine.proofs.BadPrograms.{bad_program_wrong}
use Rattle.core_machine.proofs.laws.each_way_to_go_wrong_is_taken.Goals as goal

pub returns : goal.returns
returns c = bad_program_wrong c.args.rows.now c.row_laws.ensures c.requires
