use Rattle.std.proofs.Common.{◌≡◌, ◌++◌, drop}
use Rattle.dart_tree.specs.Tree.{trees_of}
use Rattle.directives.specs.Order.{misplaced_from, misplaced_in}
use Rattle.directives.proofs.order.misplaced_in.Given as goal

abbrev pub invariant-loop-item : goal.invariant-loop-item
invariant-loop-item l = l.spans.items ++ misplaced_from l.beside l.seen (trees_of (drop l.item-index l.items)) ≡ misplaced_in (trees_of l.items)
