use Rattle.std.proofs.Common.{Option, Ok, subst}
use Rattle.dart_types.specs.Ty.{Ty}
use Rattle.type_infer.specs.Inference.{Argument}
use Rattle.type_infer.specs.Gives.{Gives}
use Rattle.type_infer.specs.Solves.{Solves}
use Rattle.type_infer.proofs.ArgumentSteps.{solution_refused, solution_held, bound_taken}
use Rattle.type_infer.proofs.HandOn.{handed_over}
use Rattle.type_infer.proofs.inference.argument_for.Goals as goal

pub returns-in_err-solved : goal.returns-in_err-solved
returns-in_err-solved c =
    let table = c.args.rows.now.table in
    handed_over (Gives (Argument table c.args.found.now c.args.before.now c.args.param)) c.from_residual.result c.in_err-solved.field-0.0 c.from_residual.ensures.1
    (λ said e. solution_refused table c.args.found.now c.args.before.now c.args.param c.in_err-solved.field-0.0 said c.in_err-solved.ensures e)

pub returns-in-Some : goal.returns-in-Some
returns-in-Some c =
    let table = c.args.rows.now.table in
    solution_held table c.args.found.now c.args.before.now c.args.param c.in-Some.solved
    (subst (λ (o : Option Ty). Solves table c.args.found.now c.args.param (Ok o)) c.in-Some.is c.in_ok-solved.ensures)
    c.within_bound.result c.within_bound.ensures

pub returns-in-None : goal.returns-in-None
returns-in-None c =
    let table = c.args.rows.now.table in
    bound_taken table c.args.found.now c.args.before.now c.args.param
    (subst (λ (o : Option Ty). Solves table c.args.found.now c.args.param (Ok o)) c.in-None.is c.in_ok-solved.ensures)
    c.bound_as_argument.result c.bound_as_argument.ensures
