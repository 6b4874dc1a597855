use Rattle.std.proofs.Common.{◌≡◌, ◌+◌, ◌*◌, drop}
use Rattle.dart_tree.specs.Tree.{trees_of, part_of}
use Rattle.dart_tree.specs.Numbers.{nodes_in, nodes_in_all, nodes_in_part}
use Rattle.judgement.specs.Judgement.{run_all}
use Rattle.resolve.specs.Around.{around}
use Rattle.resolve.proofs.Ahead.{Ahead}
use Rattle.resolve.proofs.judge.statements.+judge.Given as goal

abbrev pub decreases-judge_statement : goal.decreases-judge_statement
decreases-judge_statement l = 4 * nodes_in l.statement.now

abbrev pub decreases-judge_block : goal.decreases-judge_block
decreases-judge_block l = 4 * nodes_in_all (trees_of l.statements.now) + 2

abbrev pub decreases-judge_statements : goal.decreases-judge_statements
decreases-judge_statements l = 4 * nodes_in_all (trees_of l.statements.now) + 1

abbrev pub decreases-judge_scope : goal.decreases-judge_scope
decreases-judge_scope l = 4 * nodes_in l.statement.now + 1

abbrev pub decreases-judge_if : goal.decreases-judge_if
decreases-judge_if l = 4 * (nodes_in l.branches.then_branch.now + nodes_in_part (part_of l.branches.else_branch.now)) + 3

abbrev pub decreases-judge_else : goal.decreases-judge_else
decreases-judge_else l = 4 * nodes_in_part (part_of l.else_branch.now) + 2

abbrev pub decreases-judge_while : goal.decreases-judge_while
decreases-judge_while l = 4 * nodes_in l.body.now + 3

-- the names stay, and what all statements give is what was found so far and then what the rest gives
abbrev pub invariant-judge_statements-loop-statement : goal.invariant-judge_statements-loop-statement
invariant-judge_statements-loop-statement l =
    (l.names ≡ l.initial.names)
    × Ahead l.initial.found l.found
    (run_all (around l.context l.initial.names) (trees_of l.statements) l.before.value)
    (run_all (around l.context l.initial.names) (trees_of (drop l.statement-index l.statements)) l.after.value)
