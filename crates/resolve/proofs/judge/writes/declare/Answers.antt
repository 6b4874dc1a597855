use Rattle.std.proofs.Common.{◌≡◌, false, IsNone, sym, ap, subst, ◌∙◌}
use Rattle.flow_model.specs.Flow.{FlowModel, declare_of, facts_of}
use Rattle.flow_model.specs.declared.locals.LocalDecl.{LocalDecl}
use Rattle.flow_model.specs.declared.locals.LocalId.{LocalId}
use Rattle.judgement.specs.DeclaredNames.{local_of}
use Rattle.judgement.specs.StatementRows.{declared_local, is_declared_before, means_own}
use Rattle.resolve.specs.Points.{known, surroundings}
use Rattle.resolve.proofs.DeclaredBefore.{declared_again, declared_anew, nothing_known}
use Rattle.resolve.proofs.judge.writes.declare.Goals as goal

pub returns-then-is_declared_before : goal.returns-then-is_declared_before
returns-then-is_declared_before c =
    let context = c.args.point.context in
    let s = surroundings c.args.point in
    declared_again s c.args.name c.args.ty.now c.clone.result (λ after. after.value) _ c.args.faults.now.items c.report.new.faults.items (known c.args.point)
    (ap (is_declared_before s c.args.name) (sym c.deref.ensures) ∙ sym (c.is_declared_before.ensures context) ∙ c.if-is_declared_before.true)
    c.in_ok-report.ensures
    c.clone.ensures.cases

pub declare-requires : goal.declare-requires
declare-requires c =
    let context = c.args.point.context in
    let s = surroundings c.args.point in
    let own = local_of c.args.name in
    let new = ap (is_declared_before s c.args.name) (sym c.deref.ensures) ∙ sym (c.is_declared_before.ensures context) ∙ c.if-is_declared_before.false in
    let var : c.in_ok-local.local.var ≡ own = ap (λ (l : LocalDecl). l.var) c.in_ok-local.ensures ∙ c.declared_local.ensures in
    subst (λ (l : LocalId). IsNone (facts_of c.in_ok-declared.declared l)) (sym var)
    (subst (λ (m : FlowModel). IsNone (facts_of m own)) (sym (c.in_ok-declared.ensures ∙ c.deref-2.ensures))
    (nothing_known (means_own s c.args.name) (facts_of (known c.args.point) own) new))

pub returns : goal.returns
returns c =
    let context = c.args.point.context in
    let s = surroundings c.args.point in
    let m = (known c.args.point) in
    let new = ap (is_declared_before s c.args.name) (sym c.deref.ensures) ∙ sym (c.is_declared_before.ensures context) ∙ c.if-is_declared_before.false in
    let local = c.in_ok-local.ensures ∙ ap (λ (l : LocalId). declared_local context.rows.now.table c.args.ty.now l false) c.declared_local.ensures in
    declared_anew s c.args.name c.args.ty.now c.args.faults.now.items c.in_ok-new.field-0.value m new
    (c.in_ok-new.ensures.ok ∙ c.in_ok-declare.ensures.ok ∙ ap (λ (k : FlowModel). declare_of k c.in_ok-local.local) (c.in_ok-declared.ensures ∙ c.deref-2.ensures) ∙ ap (declare_of m) local)
