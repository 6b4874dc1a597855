use Rattle.std.proofs.Common.{◌+◌, List, drop, get_or, sym, subst}
use Rattle.std.specs.Prelude.{IfErr}
use Rattle.std.proofs.lemmas.List.{drop_all}
use Rattle.dart_types.specs.Ty.{Ty}
use Rattle.dart_types.specs.declared.ids.VarId.{VarId}
use Rattle.type_infer.specs.Knows.{EndsKnown}
use Rattle.type_infer.proofs.ArgumentSteps.{next_param}
use Rattle.type_infer.proofs.ContextSteps.{IsLearning, learning_goes_on, learning_refused, learning_ends}
use Rattle.type_infer.proofs.HandOn.{handed_on}
use Rattle.type_infer.proofs.contexts.known_types.Goals as goal

-- a solution is too large
pub returns-in_err-ty-clause-err : goal.returns-in_err-ty-clause-err
returns-in_err-ty-clause-err c =
    let table = c.args.rows.now.table in
    let cs = c.args.found.now in
    let params = c.args.params.now in
    let i = c.loop-param.param-index in
    let zero_var : VarId = record { lib = record { 0 = 0 }; index = 0 } in
    let way = subst (λ (xs : List VarId). IsLearning table cs params xs c.loop-param.known.items) (next_param params i zero_var c.loop-param-test.true) c.loop-param.invariant in
    handed_on (λ r. IfErr r (EndsKnown table cs params)) c.from_residual.result c.in_err-ty.field-0.0 c.from_residual.ensures.1
    (learning_refused table cs (get_or params i zero_var) c.in_err-ty.field-0.0 c.in_err-ty.ensures way)

pub loop-param-preserved : goal.loop-param-preserved
loop-param-preserved c =
    let table = c.args.rows.now.table in
    let cs = c.args.found.now in
    let params = c.args.params.now in
    let i = c.loop-param.param-index in
    let zero_var : VarId = record { lib = record { 0 = 0 }; index = 0 } in
    let way = subst (λ (xs : List VarId). IsLearning table cs params xs c.loop-param.known.items) (next_param params i zero_var c.loop-param-test.true) c.loop-param.invariant in
    subst (λ (ps : List (VarId × Ty)). IsLearning table cs params (drop (i + 1) params) ps) (sym c.in_ok-push_pair.ensures)
    (learning_goes_on table cs (get_or params i zero_var) c.in_ok-ty.ty c.in_ok-ty.ensures way)

pub returns-clause-ok : goal.returns-clause-ok
returns-clause-ok c =
    learning_ends c.args.rows.now.table c.args.found.now (drop_all c.loop-param.param-index c.args.params.now c.loop-param-test.false) c.loop-param.invariant
