use Rattle.std.proofs.Common.{◌≡◌, ◌+◌, ◌*◌, drop}
use Rattle.dart_tree.specs.Tree.{trees_of, part_of}
use Rattle.dart_tree.specs.Numbers.{nodes_in, nodes_in_all, nodes_in_part}
use Rattle.built_forms.specs.Forms.{are_statements}
use Rattle.built_forms.proofs.statements.+statements.Given as goal

abbrev pub decreases-is_statement : goal.decreases-is_statement
decreases-is_statement l = 4 * nodes_in l.statement.now

abbrev pub decreases-is_block : goal.decreases-is_block
decreases-is_block l = 4 * nodes_in l.statement.now + 1

abbrev pub decreases-may_be_block : goal.decreases-may_be_block
decreases-may_be_block l = 4 * nodes_in_part (part_of l.branch.now) + 2

abbrev pub decreases-are_statements : goal.decreases-are_statements
decreases-are_statements l = 4 * nodes_in_all (trees_of l.statements.now) + 3

-- all are built if those to come are
abbrev pub invariant-are_statements-loop-statement : goal.invariant-are_statements-loop-statement
invariant-are_statements-loop-statement l = are_statements l.outside (trees_of (drop l.statement-index l.statements)) ≡ are_statements l.outside (trees_of l.statements)
