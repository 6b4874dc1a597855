use Rattle.std.proofs.Common.{List, Ok, subst}
use Rattle.std.specs.Option.{option_copied}
use Rattle.std.specs.Prelude.{IfErr}
use Rattle.dart_types.specs.Ty.{types_of}
use Rattle.type_infer.specs.Pairs.{paired}
use Rattle.type_infer.specs.Inference.{context_pair, pairs_of}
use Rattle.type_infer.specs.Gathers.{EndsGathering, GathersInto}
use Rattle.type_infer.specs.declared.constraints.Side.TheVariants.{AtLeast}
use Rattle.type_infer.specs.declared.constraints.Constraint.{Constraint}
use Rattle.type_infer.proofs.GatherSteps.{first_ends, second_ends, both_into}
use Rattle.type_infer.proofs.HandOn.{handed_on}
use Rattle.type_infer.proofs.gathering.gather.Goals as goal

-- a type on the way is too large: as the context is matched
pub returns-in_err-gather_context-clause-err : goal.returns-in_err-gather_context-clause-err
returns-in_err-gather_context-clause-err c =
    let table = c.args.rows.now.table in
    let params = c.args.params.now in
    let first = context_pair c.args.returned.now (option_copied c.args.context) in
    let second = paired AtLeast (types_of c.args.formals.now) (types_of c.args.actuals.now) in
    let why = c.in_err-gather_context.field-0.0 in
    handed_on (λ r. IfErr r (EndsGathering table params (pairs_of c.args.returned.now (option_copied c.args.context) c.args.formals.now c.args.actuals.now))) c.from_residual.result why c.from_residual.ensures.1
    (first_ends table params first second why c.in_err-gather_context.ensures)

-- or as the arguments are
pub returns-in_err-gather_arguments-clause-err : goal.returns-in_err-gather_arguments-clause-err
returns-in_err-gather_arguments-clause-err c =
    let table = c.args.rows.now.table in
    let params = c.args.params.now in
    let first = context_pair c.args.returned.now (option_copied c.args.context) in
    let second = paired AtLeast (types_of c.args.formals.now) (types_of c.args.actuals.now) in
    let why = c.in_err-gather_arguments.field-0.0 in
    handed_on (λ r. IfErr r (EndsGathering table params (pairs_of c.args.returned.now (option_copied c.args.context) c.args.formals.now c.args.actuals.now))) c.from_residual-in_err-gather_arguments.result why c.from_residual-in_err-gather_arguments.ensures.1
    (second_ends table params first second c.new-found.result.items c.gather_context.new.found.items c.in_ok-gather_context.ensures why c.in_err-gather_arguments.ensures)

pub returns-clause-ok : goal.returns-clause-ok
returns-clause-ok c =
    let table = c.args.rows.now.table in
    let params = c.args.params.now in
    let first = context_pair c.args.returned.now (option_copied c.args.context) in
    let second = paired AtLeast (types_of c.args.formals.now) (types_of c.args.actuals.now) in
    let begun = subst (λ (before : List Constraint). GathersInto table params first before c.gather_context.new.found.items (Ok tt)) c.new-found.ensures.items c.in_ok-gather_context.ensures in
    both_into table params first second c.gather_context.new.found.items c.gather_arguments.new.found.items begun c.in_ok-gather_arguments.ensures
