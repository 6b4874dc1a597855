use Rattle.std.proofs.Common.{◌+◌, ◌*◌}
use Rattle.dart_tree.specs.Tree.{trees_of}
use Rattle.dart_tree.specs.Numbers.{nodes_in, nodes_in_all}
use Rattle.elaborate.proofs.values.+value.Given as goal

abbrev pub decreases-code_of : goal.decreases-code_of
decreases-code_of l = 4 * nodes_in l.tree.now

abbrev pub decreases-operator_code : goal.decreases-operator_code
decreases-operator_code l = 4 * (nodes_in l.left.now + nodes_in l.right.now) + 3

abbrev pub decreases-assignment_code : goal.decreases-assignment_code
decreases-assignment_code l = 4 * nodes_in l.value.now + 3

abbrev pub decreases-call_code : goal.decreases-call_code
decreases-call_code l = 4 * nodes_in l.arguments.now + 3

abbrev pub decreases-one_printed : goal.decreases-one_printed
decreases-one_printed l = 4 * nodes_in_all (trees_of l.arguments.now) + 3

abbrev pub decreases-printed : goal.decreases-printed
decreases-printed l = 4 * nodes_in l.argument.now + 2

abbrev pub decreases-value_printed : goal.decreases-value_printed
decreases-value_printed l = 4 * nodes_in l.value.now + 3
