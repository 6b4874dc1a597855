use Rattle.std.proofs.Common.{◌≡◌, ◌++◌, drop}
use Rattle.dart_tree.specs.Tree.{trees_of}
use Rattle.directives.specs.DeclaredNames.{declared_by_all}
use Rattle.directives.proofs.declared.add_variables.Given as goal

abbrev pub invariant-loop-variable : goal.invariant-loop-variable
invariant-loop-variable l =
    l.all.items ++ declared_by_all l.words l.kind (trees_of (drop l.variable-index l.variables)) ≡ l.initial.all.items ++ declared_by_all l.words l.kind (trees_of l.variables)
