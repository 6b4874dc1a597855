use Rattle.std.proofs.Common.{◌≡◌, ◌++◌, ◌+◌, ◌*◌, drop}
use Rattle.dart_tree.specs.Tree.{trees_of, part_of}
use Rattle.dart_tree.specs.Numbers.{nodes_in, nodes_in_all, nodes_in_part}
use Rattle.judgement.specs.Written.{written_in_all}
use Rattle.resolve.specs.Around.{around}
use Rattle.resolve.proofs.judge.written.+written.Given as goal

abbrev pub decreases-add_written : goal.decreases-add_written
decreases-add_written l = 4 * nodes_in l.statement.now

abbrev pub decreases-add_written_in_scope : goal.decreases-add_written_in_scope
decreases-add_written_in_scope l = 4 * nodes_in l.statement.now + 1

abbrev pub decreases-add_written_in_block : goal.decreases-add_written_in_block
decreases-add_written_in_block l = 4 * nodes_in_all (trees_of l.statements.now) + 2

abbrev pub decreases-add_written_in_else : goal.decreases-add_written_in_else
decreases-add_written_in_else l = 4 * nodes_in_part (part_of l.branch.now) + 2

abbrev pub decreases-add_written_in_all : goal.decreases-add_written_in_all
decreases-add_written_in_all l = 4 * nodes_in_all (trees_of l.statements.now) + 1

-- the names stay, and the locals that are written so far and those to come are all
abbrev pub invariant-add_written_in_all-loop-statement : goal.invariant-add_written_in_all-loop-statement
invariant-add_written_in_all-loop-statement l =
    (l.names ≡ l.initial.names)
    × (l.written.items ++ written_in_all (around l.context l.initial.names) (trees_of (drop l.statement-index l.statements))
    ≡ l.initial.written.items ++ written_in_all (around l.context l.initial.names) (trees_of l.statements))
