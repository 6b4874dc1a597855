use Rattle.std.proofs.Common.{◌≡◌, drop}
use Rattle.dart_tree.specs.Tree.{trees_of}
use Rattle.directives.specs.Order.{has_part_of}
use Rattle.directives.proofs.order.has_part_of.Given as goal

abbrev pub invariant-loop-item : goal.invariant-loop-item
invariant-loop-item l = has_part_of (trees_of l.items) ≡ has_part_of (trees_of (drop l.item-index l.items))
