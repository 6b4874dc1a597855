use Rattle.std.proofs.Common.{◌≡◌, true, IsNone, sym, ap, subst, ◌∙◌}
use Rattle.flow_model.specs.Flow.{FlowModel, at_local, declare_of, facts_of}
use Rattle.flow_model.specs.Assign.{assign_facts}
use Rattle.flow_model.specs.declared.locals.LocalDecl.{LocalDecl}
use Rattle.flow_model.specs.declared.locals.LocalId.{LocalId}
use Rattle.judgement.specs.DeclaredNames.{local_of}
use Rattle.judgement.specs.StatementRows.{declared_local, is_declared_before, means_own}
use Rattle.resolve.specs.Points.{surroundings}
use Rattle.resolve.proofs.DeclaredBefore.{initialized_again, initialized_anew, nothing_known}
use Rattle.resolve.proofs.judge.writes.initialize.Goals as goal

pub returns-then-is_declared_before : goal.returns-then-is_declared_before
returns-then-is_declared_before c =
    let context = c.args.point.context in
    let s = surroundings c.args.point in
    let value = c.args.value.now in
    initialized_again s c.args.name c.args.ty.now value.at value.ty c.clone.result (λ after. after.value) _ c.args.faults.now.items c.check_fit.new.faults.items c.report.new.faults.items value.after.value
    (ap (is_declared_before s c.args.name) (sym c.deref.ensures) ∙ sym (c.is_declared_before.ensures context) ∙ c.if-is_declared_before.true)
    c.in_ok-check_fit.ensures
    c.in_ok-report.ensures
    c.clone.ensures.cases

pub declare_with_value-requires : goal.declare_with_value-requires
declare_with_value-requires c =
    let context = c.args.point.context in
    let s = surroundings c.args.point in
    let own = local_of c.args.name in
    let new = ap (is_declared_before s c.args.name) (sym c.deref.ensures) ∙ sym (c.is_declared_before.ensures context) ∙ c.if-is_declared_before.false in
    let var : c.in_ok-local.local.var ≡ own = ap (λ (l : LocalDecl). l.var) c.in_ok-local.ensures ∙ c.declared_local.ensures in
    subst (λ (l : LocalId). IsNone (facts_of c.in_ok-declared.declared l)) (sym var)
    (subst (λ (m : FlowModel). IsNone (facts_of m own)) (sym (c.in_ok-declared.ensures ∙ c.deref-2.ensures))
    (nothing_known (means_own s c.args.name) (facts_of c.args.value.now.after.value own) new))

pub returns : goal.returns
returns c =
    let context = c.args.point.context in
    let table = context.rows.now.table in
    let s = surroundings c.args.point in
    let value = c.args.value.now in
    let new = ap (is_declared_before s c.args.name) (sym c.deref.ensures) ∙ sym (c.is_declared_before.ensures context) ∙ c.if-is_declared_before.false in
    let local = c.in_ok-local.ensures ∙ ap (λ (l : LocalId). declared_local table c.args.ty.now l true) c.declared_local.ensures in
    initialized_anew s c.args.name c.args.ty.now value.at value.ty c.args.faults.now.items c.check_fit.new.faults.items c.in_ok-new.field-0.value value.after.value new
    c.in_ok-check_fit.ensures
    (c.in_ok-new.ensures.ok
    ∙ c.in_ok-declare_with_value.ensures
    ∙ ap (λ (k : FlowModel). at_local (declare_of k c.in_ok-local.local) c.in_ok-local.local.var (assign_facts table value.ty)) (c.in_ok-declared.ensures ∙ c.deref-2.ensures)
    ∙ ap (λ (l : LocalDecl). at_local (declare_of value.after.value l) l.var (assign_facts table value.ty)) local)
