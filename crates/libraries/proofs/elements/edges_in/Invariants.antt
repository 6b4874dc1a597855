use Rattle.std.proofs.Common.{◌≡◌, ◌++◌, drop}
use Rattle.libraries.specs.Elements.{edges_in}
use Rattle.libraries.proofs.elements.edges_in.Given as goal

abbrev pub invariant-loop-directive : goal.invariant-loop-directive
invariant-loop-directive l = l.edges.items ++ edges_in l.heads (drop l.directive-index l.directives) l.rest ≡ edges_in l.heads l.directives l.aims
