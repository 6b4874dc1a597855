use Rattle.std.proofs.Common.{◌≡◌, ◌++◌, ◌+◌, ◌*◌, drop}
use Rattle.dart_tree.specs.Tree.{trees_of}
use Rattle.dart_tree.specs.Numbers.{nodes_in, nodes_in_all}
use Rattle.judgement.specs.Written.{written_in_all}
use Rattle.resolve.specs.Around.{around}
use Rattle.resolve.proofs.judge.written.+values.Given as goal

abbrev pub decreases-add_written_in_value : goal.decreases-add_written_in_value
decreases-add_written_in_value l = 2 * nodes_in l.expression.now

abbrev pub decreases-add_written_in_argument : goal.decreases-add_written_in_argument
decreases-add_written_in_argument l = 2 * nodes_in l.argument.now

abbrev pub decreases-add_written_in_arguments : goal.decreases-add_written_in_arguments
decreases-add_written_in_arguments l = 2 * nodes_in_all (trees_of l.arguments.now) + 1

-- the locals that are written so far and those to come are all
abbrev pub invariant-add_written_in_arguments-loop-argument : goal.invariant-add_written_in_arguments-loop-argument
invariant-add_written_in_arguments-loop-argument l =
    l.written.items ++ written_in_all (around l.context l.names) (trees_of (drop l.argument-index l.arguments))
    ≡ l.initial.written.items ++ written_in_all (around l.context l.names) (trees_of l.arguments)
