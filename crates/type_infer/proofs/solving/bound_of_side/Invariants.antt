use Rattle.std.proofs.Common.{drop}
use Rattle.type_infer.specs.Constraints.{types_on}
use Rattle.type_infer.specs.Solves.{bound_on}
use Rattle.type_infer.proofs.FoldSteps.{IsFolding}
use Rattle.type_infer.proofs.solving.bound_of_side.Given as goal

abbrev pub invariant-loop-constraint : goal.invariant-loop-constraint
invariant-loop-constraint l = IsFolding (bound_on l.fn.side l.rows.table) (types_on l.fn.side l.param l.found) (types_on l.fn.side l.param (drop l.constraint-index l.found)) l.bound
