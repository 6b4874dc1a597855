use Rattle.std.proofs.Common.{List, length, get_or, Ok, Err, subst, ◌∙◌}
use Rattle.std.proofs.lemmas.List.{get_or_default}
use Rattle.std.specs.Option.{option_copied}
use Rattle.dart_types.specs.Ty.{Ty, invalid}
use Rattle.dart_types.specs.Formed.{Forms}
use Rattle.dart_types.specs.Normal.{substituted}
use Rattle.dart_types.specs.declared.ids.VarId.{VarId}
use Rattle.type_infer.specs.Inference.{pairs_of}
use Rattle.type_infer.specs.Contexts.{Known}
use Rattle.type_infer.specs.Knows.{EndsKnown}
use Rattle.type_infer.specs.declared.constraints.Constraint.{Constraint}
use Rattle.type_infer.proofs.Answered.{context_answer}
use Rattle.type_infer.proofs.ContextSteps.{FormsContext, context_formed, context_refused, not_known, not_gathered}
use Rattle.type_infer.proofs.HandOn.{handed_over}
use Rattle.type_infer.proofs.contexts.context_of.Goals as goal

-- a type is too large: as the pairs are matched
pub returns-in_err-found : goal.returns-in_err-found
returns-in_err-found c =
    let table = c.args.rows.now.table in
    let params = c.args.params.now in
    let pairs = pairs_of c.args.returned.now (option_copied c.args.context) c.args.formals.now c.args.done.now in
    let formal = get_or c.args.formals.now (length c.args.done.now) invalid in
    context_answer table c.bound_table_laws.ensures params c.args.returned.now (option_copied c.args.context) c.args.formals.now c.args.done.now c.from_residual.result
    (handed_over (λ r. FormsContext table params pairs formal r) c.from_residual.result c.in_err-found.field-0.0 c.from_residual.ensures.1
    (λ said e. not_gathered table params pairs formal c.in_err-found.field-0.0 said c.in_err-found.ensures.err e))

-- a solution
pub returns-in_err-known : goal.returns-in_err-known
returns-in_err-known c =
    let table = c.args.rows.now.table in
    let params = c.args.params.now in
    let pairs = pairs_of c.args.returned.now (option_copied c.args.context) c.args.formals.now c.args.done.now in
    let formal = get_or c.args.formals.now (length c.args.done.now) invalid in
    let ended = subst (λ (cs : List Constraint). EndsKnown table cs params c.in_err-known.field-0.0) c.deref.ensures.value c.in_err-known.ensures.err in
    context_answer table c.bound_table_laws.ensures params c.args.returned.now (option_copied c.args.context) c.args.formals.now c.args.done.now c.from_residual-in_err-known.result
    (handed_over (λ r. FormsContext table params pairs formal r) c.from_residual-in_err-known.result c.in_err-known.field-0.0 c.from_residual-in_err-known.ensures.1
    (λ said e. not_known table params pairs formal c.in_ok-found.ensures.ok c.in_err-known.field-0.0 said ended e))

-- or the context
pub returns-in_err-ty : goal.returns-in_err-ty
returns-in_err-ty c =
    let table = c.args.rows.now.table in
    let params = c.args.params.now in
    let pairs = pairs_of c.args.returned.now (option_copied c.args.context) c.args.formals.now c.args.done.now in
    let formals = c.args.formals.now in
    let at = length c.args.done.now in
    let formal = get_or formals at invalid in
    let known = subst (λ (cs : List Constraint). Known table cs params (Ok c.in_ok-known.known.items)) c.deref.ensures.value c.in_ok-known.ensures.ok in
    let same = c.index-formals-done.is ∙ get_or_default formals at c.index-formals-done.result invalid c.requires in
    let ended =
    subst (λ (t : Ty). Forms (Err c.in_err-ty.field-0.0) (substituted c.in_ok-known.known.items t)) same
    (subst (λ (ps : List (VarId × Ty)). Forms (Err c.in_err-ty.field-0.0) (substituted ps c.index-formals-done.result)) c.deref-2.ensures.value c.in_err-ty.ensures)
    in
    context_answer table c.bound_table_laws.ensures params c.args.returned.now (option_copied c.args.context) c.args.formals.now c.args.done.now c.from_residual-in_err-ty.result
    (handed_over (λ r. FormsContext table params pairs formal r) c.from_residual-in_err-ty.result c.in_err-ty.field-0.0 c.from_residual-in_err-ty.ensures.1
    (λ said e. context_refused table params pairs formal c.in_ok-found.ensures.ok known c.in_err-ty.field-0.0 said ended e))

pub returns : goal.returns
returns c =
    let table = c.args.rows.now.table in
    let params = c.args.params.now in
    let pairs = pairs_of c.args.returned.now (option_copied c.args.context) c.args.formals.now c.args.done.now in
    let formals = c.args.formals.now in
    let at = length c.args.done.now in
    let formal = get_or formals at invalid in
    let known = subst (λ (cs : List Constraint). Known table cs params (Ok c.in_ok-known.known.items)) c.deref.ensures.value c.in_ok-known.ensures.ok in
    let same = c.index-formals-done.is ∙ get_or_default formals at c.index-formals-done.result invalid c.requires in
    let done =
    subst (λ (t : Ty). Forms (Ok c.in_ok-ty.ty) (substituted c.in_ok-known.known.items t)) same
    (subst (λ (ps : List (VarId × Ty)). Forms (Ok c.in_ok-ty.ty) (substituted ps c.index-formals-done.result)) c.deref-2.ensures.value c.in_ok-ty.ensures)
    in
    context_answer table c.bound_table_laws.ensures params c.args.returned.now (option_copied c.args.context) c.args.formals.now c.args.done.now (Ok c.in_ok-ty.ty)
    (context_formed table params pairs formal c.in_ok-found.ensures.ok known c.in_ok-ty.ty done)
