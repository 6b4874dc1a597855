use Rattle.core_machine.proofs.Soundness.{never_wrong}
use Rattle.core_machine.proofs.laws.never_wrong.Goals as goal

pub returns : goal.returns
returns c n k = never_wrong c.args.program.now c.program.ensures.laws c.program.ensures.nothing_out c.program.ensures.well_formed c.program.ensures.accepted n k
