use Rattle.std.proofs.Common.{◌≡◌, ◌+◌, ◌*◌, map, take}
use Rattle.dart_tree.specs.Tree.{part_of, trees_of}
use Rattle.dart_tree.specs.Numbers.{nodes_in, nodes_in_all, nodes_in_part}
use Rattle.elaborate.specs.Rows.{statement_code}
use Rattle.elaborate.proofs.statements.+statement.Given as goal

abbrev pub decreases-statement_code : goal.decreases-statement_code
decreases-statement_code l = 4 * nodes_in l.statement.now

abbrev pub decreases-statements_code : goal.decreases-statements_code
decreases-statements_code l = 4 * nodes_in_all (trees_of l.statements.now) + 1

abbrev pub decreases-if_code : goal.decreases-if_code
decreases-if_code l = 4 * (nodes_in l.then_branch.now + nodes_in_part (part_of l.else_branch.now)) + 3

abbrev pub decreases-branch_code : goal.decreases-branch_code
decreases-branch_code l = 4 * nodes_in_part (part_of l.branch.now) + 1

abbrev pub decreases-while_code : goal.decreases-while_code
decreases-while_code l = 4 * nodes_in l.body.now + 3

-- the parts are the code of the statements before the index
abbrev pub invariant-statements_code-loop-statement : goal.invariant-statements_code-loop-statement
invariant-statements_code-loop-statement l = l.parts.items ≡ map (statement_code l.said) (take l.statement-index l.statements)
