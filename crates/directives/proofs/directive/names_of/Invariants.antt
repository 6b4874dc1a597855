use Rattle.std.proofs.Common.{◌≡◌, ◌++◌, drop}
use Rattle.dart_tree.specs.Tree.{trees_of}
use Rattle.directives.specs.Directives.{names_of}
use Rattle.directives.proofs.directive.names_of.Given as goal

abbrev pub invariant-loop-name : goal.invariant-loop-name
invariant-loop-name l = l.list.items ++ names_of l.words (trees_of (drop l.name-index l.names)) ≡ names_of l.words (trees_of l.names)
