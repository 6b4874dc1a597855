use Rattle.std.specs.Prelude.{◌+◌, ◌*◌}
use Rattle.dart_tree.specs.Tree.{part_of}
use Rattle.dart_tree.specs.Numbers.{nodes_in, nodes_in_part}
use Rattle.read_lists.proofs.statements.+branches.Given as goal

abbrev pub decreases-read_stmt : goal.decreases-read_stmt
decreases-read_stmt g l = 2 * nodes_in l.stmt.now

abbrev pub decreases-read_optional_stmt : goal.decreases-read_optional_stmt
decreases-read_optional_stmt g l = 2 * nodes_in_part (part_of l.stmt.now) + 1
