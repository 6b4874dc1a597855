use Rattle.std.proofs.Common.{◌+◌, ◌*◌}
use Rattle.dart_tree.specs.Tree.{trees_of}
use Rattle.dart_tree.specs.Numbers.{nodes_in, nodes_in_all}
use Rattle.resolve.proofs.judge.expressions.+expression.Given as goal

abbrev pub decreases-judge_expression : goal.decreases-judge_expression
decreases-judge_expression l = 4 * nodes_in l.expression.now + 2

abbrev pub decreases-judge_form : goal.decreases-judge_form
decreases-judge_form l = 4 * nodes_in l.expression.now

abbrev pub decreases-judge_operator : goal.decreases-judge_operator
decreases-judge_operator l = 4 * (nodes_in l.left.now + nodes_in l.right.now) + 3

abbrev pub decreases-judge_assignment : goal.decreases-judge_assignment
decreases-judge_assignment l = 4 * nodes_in l.value.now + 3

abbrev pub decreases-judge_call : goal.decreases-judge_call
decreases-judge_call l = 4 * nodes_in l.arguments.now + 3

abbrev pub decreases-judge_printed : goal.decreases-judge_printed
decreases-judge_printed l = 4 * nodes_in_all (trees_of l.arguments.now) + 3

abbrev pub decreases-judge_argument : goal.decreases-judge_argument
decreases-judge_argument l = 4 * nodes_in l.argument.now + 2

abbrev pub decreases-judge_print : goal.decreases-judge_print
decreases-judge_print l = 4 * nodes_in l.value.now + 3
