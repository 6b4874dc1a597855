use Rattle.std.proofs.Common.{◌+◌, subst, arith}
use Rattle.dart_types.specs.Ty.{Ty}
use Rattle.dart_types.specs.Measure.{weight_of}
use Rattle.type_bounds.specs.Bounds.{Upper}
use Rattle.type_bounds.specs.Chains.{marked_by}
use Rattle.type_bounds.specs.Meetings.{IsNext}
use Rattle.type_bounds.specs.declared.meetings.Next.{Next}
use Rattle.type_bounds.proofs.MeetingSteps.{marked_or, within_over}
use Rattle.type_bounds.proofs.meetings.meet.Goals as goal

pub loop-end-init : goal.loop-end-init
loop-end-init c = (omega arith, λ u a. a)

pub returns-in-Ends : goal.returns-in-Ends
returns-in-Ends c =
    let table = c.args.rows.now.table in
    let step = c.step_of-step.result in
    let weight = weight_of table c.loop-end.left.now + weight_of table c.loop-end.right.now in
    let whole = weight_of table c.args.s.now + weight_of table c.args.t.now in
    let next = subst (λ (n : Next). IsNext table weight (λ u. Upper table c.loop-end.left.now c.loop-end.right.now (marked_by step.marked u)) n) c.in-Ends.is c.step_of-step.ensures in (
      within_over table weight whole c.in-Ends.end c.loop-end.invariant.0 next.0,
      λ u a. subst (λ (v : Ty). Upper table c.args.s.now c.args.t.now v) (marked_or c.loop-end.marked step.marked u) (c.loop-end.invariant.1 (marked_by step.marked u) (next.1 u a)),
    )

pub loop-end-smaller : goal.loop-end-smaller
loop-end-smaller c =
    let table = c.args.rows.now.table in
    let step = c.step_of-step.result in
    let weight = weight_of table c.loop-end.left.now + weight_of table c.loop-end.right.now in
    let next = subst (λ (n : Next). IsNext table weight (λ u. Upper table c.loop-end.left.now c.loop-end.right.now (marked_by step.marked u)) n) c.in-Pair.is c.step_of-step.ensures in
    next.0

pub loop-end-preserved : goal.loop-end-preserved
loop-end-preserved c =
    let table = c.args.rows.now.table in
    let step = c.step_of-step.result in
    let weight = weight_of table c.loop-end.left.now + weight_of table c.loop-end.right.now in
    let next = subst (λ (n : Next). IsNext table weight (λ u. Upper table c.loop-end.left.now c.loop-end.right.now (marked_by step.marked u)) n) c.in-Pair.is c.step_of-step.ensures in (
      omega (arith, next.0, c.loop-end.invariant.0),
      λ u a. subst (λ (v : Ty). Upper table c.args.s.now c.args.t.now v) (marked_or c.loop-end.marked step.marked u) (c.loop-end.invariant.1 (marked_by step.marked u) (next.1 u a)),
    )
