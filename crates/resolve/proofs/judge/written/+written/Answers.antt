use Rattle.std.proofs.Common.{arith}
use Rattle.resolve.proofs.Sizes.{nodes_in-item}
use Rattle.resolve.proofs.judge.written.+written.Goals as goal

pub add_written_in_all-add_written-requires : goal.add_written_in_all-add_written-requires
add_written_in_all-add_written-requires t c =
    omega (arith, nodes_in-item c.args.statements.now c.loop-statement.statement-index c.statement-item.result c.loop-statement-test.true c.statement-item.is)
