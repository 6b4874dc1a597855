use Rattle.std.proofs.Common.{◌≡◌, ◌++◌, drop}
use Rattle.dart_tree.specs.Tree.{trees_of}
use Rattle.directives.specs.Directives.{combinators_of}
use Rattle.directives.proofs.directive.combinators_of.Given as goal

abbrev pub invariant-loop-one : goal.invariant-loop-one
invariant-loop-one l = l.combinators.items ++ combinators_of l.words (trees_of (drop l.one-index l.written)) ≡ combinators_of l.words (trees_of l.written)
