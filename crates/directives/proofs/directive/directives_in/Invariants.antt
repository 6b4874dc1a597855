use Rattle.std.proofs.Common.{◌≡◌, ◌++◌, drop}
use Rattle.dart_tree.specs.Tree.{trees_of}
use Rattle.directives.specs.Directives.{directives_in}
use Rattle.directives.proofs.directive.directives_in.Given as goal

abbrev pub invariant-loop-item : goal.invariant-loop-item
invariant-loop-item l = l.directives.items ++ directives_in l.words (trees_of (drop l.item-index l.items)) ≡ directives_in l.words (trees_of l.items)
