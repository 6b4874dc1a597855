use Rattle.std.proofs.Common.{◌≡◌, ◌++◌, drop}
use Rattle.dart_tree.specs.Tree.{trees_of}
use Rattle.judgement.specs.DeclaredNames.{names_of_variables}
use Rattle.resolve.proofs.names.add_names_of_variables.Given as goal

-- the names that were seen and those to come are all
abbrev pub invariant-loop-variable : goal.invariant-loop-variable
invariant-loop-variable l =
    l.names.items ++ names_of_variables (trees_of (drop l.variable-index l.variables)) ≡ l.initial.names.items ++ names_of_variables (trees_of l.variables)
