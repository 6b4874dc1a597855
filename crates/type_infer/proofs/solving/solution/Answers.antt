use Rattle.std.proofs.Common.{Option, Ok, subst}
use Rattle.dart_types.specs.Ty.{Ty}
use Rattle.type_bounds.specs.Bounds.{Upper}
use Rattle.type_infer.specs.Constraints.{types_on}
use Rattle.type_infer.specs.Solves.{Folds, Solves}
use Rattle.type_infer.specs.declared.constraints.Side.TheVariants.{AtLeast}
use Rattle.type_infer.proofs.FoldSteps.{least_solves, least_refused, most_solves}
use Rattle.type_infer.proofs.HandOn.{handed_on}
use Rattle.type_infer.proofs.solving.solution.Goals as goal

pub returns-in_err-least : goal.returns-in_err-least
returns-in_err-least c =
    handed_on (Solves c.args.rows.now.table c.args.found.now c.args.param) c.from_residual.result c.in_err-least.field-0.0 c.from_residual.ensures.1
    (least_refused c.args.rows.now.table c.args.found.now c.args.param c.in_err-least.field-0.0 c.in_err-least.ensures)

pub returns-in-Some : goal.returns-in-Some
returns-in-Some c =
    least_solves c.args.rows.now.table c.args.found.now c.args.param c.in-Some.least
    (subst (λ (o : Option Ty). Folds (Upper c.args.rows.now.table) (types_on AtLeast c.args.param c.args.found.now) (Ok o)) c.in-Some.is c.in_ok-least.ensures)

pub returns-in-None : goal.returns-in-None
returns-in-None c =
    most_solves c.args.rows.now.table c.args.found.now c.args.param
    (subst (λ (o : Option Ty). Folds (Upper c.args.rows.now.table) (types_on AtLeast c.args.param c.args.found.now) (Ok o)) c.in-None.is c.in_ok-least.ensures)
    c.bound_of_side-in-None.result c.bound_of_side-in-None.ensures
