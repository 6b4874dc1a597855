use Rattle.std.proofs.Common.{◌≡◌, ◌++◌, drop}
use Rattle.dart_tree.specs.Tree.{trees_of}
use Rattle.directives.specs.DeclaredNames.{declared_in}
use Rattle.directives.proofs.declared.declared_in.Given as goal

abbrev pub invariant-loop-item : goal.invariant-loop-item
invariant-loop-item l = l.all.items ++ declared_in l.words (trees_of (drop l.item-index l.items)) ≡ declared_in l.words (trees_of l.items)
