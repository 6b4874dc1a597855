use Rattle.std.proofs.Common.{◌≡◌, drop}
use Rattle.dart_tree.specs.Tree.{trees_of}
use Rattle.directives.specs.Directives.{last_end}
use Rattle.directives.proofs.directive.last_end.Given as goal

abbrev pub invariant-loop-name : goal.invariant-loop-name
invariant-loop-name l = last_end l.last (trees_of (drop l.name-index l.names)) ≡ last_end l.fn.end (trees_of l.names)
