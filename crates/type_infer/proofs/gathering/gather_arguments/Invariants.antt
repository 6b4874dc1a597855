use Rattle.dart_types.specs.Ty.{types_of}
use Rattle.type_infer.specs.Pairs.{paired}
use Rattle.type_infer.specs.declared.constraints.Side.TheVariants.{AtLeast}
use Rattle.type_infer.proofs.GatherSteps.{IsOnWay, paired_from}
use Rattle.type_infer.proofs.gathering.gather_arguments.Given as goal

abbrev pub invariant-loop-i : goal.invariant-loop-i
invariant-loop-i l = IsOnWay l.rows.table l.params (paired AtLeast (types_of l.formals) (types_of l.actuals)) (paired_from AtLeast l.formals l.actuals l.i) l.initial.found.items l.found.items
