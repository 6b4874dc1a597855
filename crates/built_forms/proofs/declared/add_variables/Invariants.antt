use Rattle.std.proofs.Common.{◌≡◌, ◌++◌, drop}
use Rattle.dart_tree.specs.Tree.{trees_of}
use Rattle.built_forms.specs.DeclaredNames.{declared_by_all}
use Rattle.built_forms.proofs.declared.add_variables.Given as goal

abbrev pub invariant-loop-variable : goal.invariant-loop-variable
invariant-loop-variable l =
    l.words.items ++ declared_by_all (trees_of (drop l.variable-index l.variables)) ≡ l.initial.words.items ++ declared_by_all (trees_of l.variables)
