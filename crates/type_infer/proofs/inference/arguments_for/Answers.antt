use Rattle.std.proofs.Common.{◌+◌, List, [], drop, get_or, Ok, Err, sym, subst}
use Rattle.std.proofs.lemmas.List.{drop_all}
use Rattle.dart_types.specs.Ty.{Ty}
use Rattle.dart_types.specs.declared.ids.VarId.{VarId}
use Rattle.type_infer.specs.Inference.{Argument, Arguments}
use Rattle.type_infer.specs.Gives.{Gives}
use Rattle.type_infer.proofs.ArgumentSteps.{IsGiving, next_param, giving_goes_on, giving_refused, giving_ends}
use Rattle.type_infer.proofs.HandOn.{handed_on}
use Rattle.type_infer.proofs.inference.arguments_for.Goals as goal

-- a parameter has no argument
pub returns-in_err-argument : goal.returns-in_err-argument
returns-in_err-argument c =
    let table = c.args.rows.now.table in
    let cs = c.args.found.now in
    let params = c.args.params.now in
    let i = c.loop-param.param-index in
    let given = c.loop-param.given.items in
    let zero_var : VarId = record { lib = record { 0 = 0 }; index = 0 } in
    let way = subst (λ (xs : List VarId). IsGiving table cs params xs given) (next_param params i zero_var c.loop-param-test.true) c.loop-param.invariant in
    let here = subst (λ (ps : List (VarId × Ty)). Gives (Argument table cs ps (get_or params i zero_var)) (Err c.in_err-argument.field-0.0)) c.deref.ensures.value c.in_err-argument.ensures in
    handed_on (Gives (Arguments table cs [] params)) c.from_residual.result c.in_err-argument.field-0.0 c.from_residual.ensures.1
    (giving_refused table cs (get_or params i zero_var) c.in_err-argument.field-0.0 here way)

pub loop-param-preserved : goal.loop-param-preserved
loop-param-preserved c =
    let table = c.args.rows.now.table in
    let cs = c.args.found.now in
    let params = c.args.params.now in
    let i = c.loop-param.param-index in
    let given = c.loop-param.given.items in
    let zero_var : VarId = record { lib = record { 0 = 0 }; index = 0 } in
    let way = subst (λ (xs : List VarId). IsGiving table cs params xs given) (next_param params i zero_var c.loop-param-test.true) c.loop-param.invariant in
    let here = subst (λ (ps : List (VarId × Ty)). Argument table cs ps (get_or params i zero_var) (Ok c.in_ok-argument.argument)) c.deref.ensures.value c.in_ok-argument.ensures in
    subst (λ (ps : List (VarId × Ty)). IsGiving table cs params (drop (i + 1) params) ps) (sym c.in_ok-push_pair.ensures)
    (giving_goes_on table cs (get_or params i zero_var) c.in_ok-argument.argument here way)

pub returns : goal.returns
returns c =
    let table = c.args.rows.now.table in
    let i = c.loop-param.param-index in
    subst (λ (ts : List Ty). Arguments table c.args.found.now [] c.args.params.now (Ok ts)) (sym c.in_ok-types.ensures)
    (giving_ends table c.args.found.now (drop_all i c.args.params.now c.loop-param-test.false) c.loop-param.invariant)
