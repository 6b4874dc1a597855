use Rattle.std.proofs.Common.{◌+◌, sym, subst, arith}
use Rattle.dart_types.specs.Ty.{Ty}
use Rattle.dart_types.specs.Measure.{weight_of}
use Rattle.type_bounds.specs.Bounds.{Upper, right_above, left_above, upper_apart, UpperApart}
use Rattle.type_bounds.specs.Chains.{marked_by}
use Rattle.type_bounds.proofs.General.{granted, refused}
use Rattle.type_bounds.proofs.MeetingSteps.{next_over}
use Rattle.type_bounds.proofs.meetings.step_of.Goals as goal

pub returns-then-is_subtype : goal.returns-then-is_subtype
returns-then-is_subtype c = (tt, λ u e. subst (λ (v : Ty). Upper c.args.rows.now.table c.args.s.now c.args.t.now v) (sym e) (right_above (granted c.is_subtype.ensures.rules c.if-is_subtype.true)))

pub returns-then-is_subtype-2 : goal.returns-then-is_subtype-2
returns-then-is_subtype-2 c = (
  tt,
  λ u e.
      subst (λ (v : Ty). Upper c.args.rows.now.table c.args.s.now c.args.t.now v) (sym e)
      (left_above (refused c.is_subtype.ensures.rules c.if-is_subtype.false) (granted c.is_subtype-2.ensures.rules c.if-is_subtype-2.true)),
)

pub returns : goal.returns
returns c =
    let table = c.args.rows.now.table in
    let step = c.step_apart.result in
    let weight = weight_of table c.args.s.now + weight_of table c.args.t.now in
    next_over table weight weight (λ u. UpperApart table c.args.s.now c.args.t.now (marked_by step.marked u)) (λ u. Upper table c.args.s.now c.args.t.now (marked_by step.marked u)) step.next (omega arith)
    (λ u a. upper_apart (refused c.is_subtype.ensures.rules c.if-is_subtype.false, refused c.is_subtype-2.ensures.rules c.if-is_subtype-2.false) a)
    c.step_apart.ensures
