use Rattle.std.proofs.Common.{arith}
use Rattle.elaborate.proofs.SaidNodes.{nodes_before}
use Rattle.elaborate.proofs.program.build_program.Goals as goal

pub new-requires : goal.new-requires
new-requires c k d lt =
    let from = c.requires.from k d lt in
    let before = nodes_before c.args.typed.now k d lt in
    let count = c.slot_count-count.ensures in
    (from, omega arith)
