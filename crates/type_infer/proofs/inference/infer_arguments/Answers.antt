use Rattle.std.proofs.Common.{List, [], subst}
use Rattle.std.specs.Option.{option_copied}
use Rattle.type_infer.specs.Inference.{pairs_of, Arguments, Inferred}
use Rattle.type_infer.specs.Gives.{Gives}
use Rattle.type_infer.specs.declared.constraints.Constraint.{Constraint}
use Rattle.type_infer.proofs.Answered.{inferred_answer}
use Rattle.type_infer.proofs.ArgumentSteps.{inferred, not_gathered}
use Rattle.type_infer.proofs.HandOn.{handed_over}
use Rattle.type_infer.proofs.inference.infer_arguments.Goals as goal

pub returns-in_err-found : goal.returns-in_err-found
returns-in_err-found c =
    let table = c.args.rows.now.table in
    let params = c.args.params.now in
    let context = option_copied c.args.context in
    let pairs = pairs_of c.args.returned.now context c.args.formals.now c.args.actuals.now in
    inferred_answer table c.bound_table_laws.ensures params c.args.returned.now context c.args.formals.now c.args.actuals.now c.from_residual.result
    (handed_over (Gives (Inferred table params pairs)) c.from_residual.result c.in_err-found.field-0.0 c.from_residual.ensures.1
    (λ said e. not_gathered table params pairs c.in_err-found.field-0.0 said c.in_err-found.ensures.err e))

pub returns : goal.returns
returns c =
    let table = c.args.rows.now.table in
    let params = c.args.params.now in
    let context = option_copied c.args.context in
    inferred_answer table c.bound_table_laws.ensures params c.args.returned.now context c.args.formals.now c.args.actuals.now c.arguments_for.result
    (inferred table params (pairs_of c.args.returned.now context c.args.formals.now c.args.actuals.now) c.in_ok-found.ensures.ok c.arguments_for.result
    (subst (λ (cs : List Constraint). Gives (Arguments table cs [] params) c.arguments_for.result) c.deref.ensures.value c.arguments_for.ensures))
