use Rattle.std.proofs.Common.{drop}
use Rattle.dart_tree.specs.Tree.{trees_of}
use Rattle.judgement.specs.Judgement.{declare_all}
use Rattle.resolve.specs.Points.{known, surroundings}
use Rattle.resolve.proofs.Ahead.{Ahead}
use Rattle.resolve.proofs.judge.statements.declare_variables.Given as goal

-- what all variables give is what was found so far and then what the rest gives
abbrev pub invariant-loop-variable : goal.invariant-loop-variable
invariant-loop-variable l =
    Ahead l.initial.found l.found
    (declare_all (surroundings l.point) l.ty (trees_of l.variables) (known l.point))
    (declare_all (surroundings l.point) l.ty (trees_of (drop l.variable-index l.variables)) l.after.value)
