use Rattle.std.proofs.Common.{sym, subst}
use Rattle.core_check.specs.Checks.{Tells}
use Rattle.core_check.proofs.Inside.{faults_are}
use Rattle.core_check.proofs.points.check_point.Goals as goal

-- the faults of the point are those of its parts
pub returns : goal.returns
returns c =
    subst (Tells c.check_parts-told.result) (sym (faults_are c.args.program.now c.args.number c.point_of-point.result.now c.function_of-function.result.now c.point_of-point.ensures.point c.function_of-function.ensures)) c.check_parts-told.ensures
