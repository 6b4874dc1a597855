use Rattle.std.proofs.Common.{arith}
use Rattle.resolve.proofs.Sizes.{nodes_in-item}
use Rattle.resolve.proofs.judge.written.+values.Goals as goal

pub add_written_in_arguments-add_written_in_argument-requires : goal.add_written_in_arguments-add_written_in_argument-requires
add_written_in_arguments-add_written_in_argument-requires t c =
    omega (arith, nodes_in-item c.args.arguments.now c.loop-argument.argument-index c.argument-item.result c.loop-argument-test.true c.argument-item.is)
