use Rattle.std.proofs.Common.{◌≡◌, Some, None, false, sym, ◌∙◌, ap, subst}
use Rattle.dart_types.specs.Ty.{Ty, nullable}
use Rattle.dart_types.specs.Marks.{is_marked}
use Rattle.dart_types.specs.Node.{type_of}
use Rattle.type_infer.specs.Ways.{GivesWay, to_none, to_last, past_mark}
use Rattle.type_infer.specs.declared.constraints.Side.TheVariants.{AtLeast}
use Rattle.type_infer.proofs.WaySteps.{unmarked_node, past_mark_falls}
use Rattle.type_infer.proofs.ways.standing_bare.Goals as goal

pub returns-in-None : goal.returns-in-None
returns-in-None c = c.loop-last.invariant None (to_none c.in-None.ensures)

-- past the `?` of what it gives way to
pub loop-last-smaller : goal.loop-last-smaller
loop-last-smaller c =
    let is : c.in-Some.last.now ≡ nullable c.deref-left.result.now = sym c.last.view_is ∙ ap type_of c.in-Nullable.is ∙ ap nullable (sym c.deref-left.ensures) in
    past_mark_falls c.args.rows.now.table c.row_laws.ensures c.loop-last.left.now c.in-Some.last.now c.deref-left.result.now c.in-Some.ensures is

pub loop-last-preserved : goal.loop-last-preserved
loop-last-preserved c =
    let is : c.in-Some.last.now ≡ nullable c.deref-left.result.now = sym c.last.view_is ∙ ap type_of c.in-Nullable.is ∙ ap nullable (sym c.deref-left.ensures) in
    λ last w. c.loop-last.invariant last (past_mark (subst (λ (u : Ty). GivesWay c.args.rows.now.table AtLeast c.loop-last.left.now (Some u)) is c.in-Some.ensures) w)

pub returns-in_default : goal.returns-in_default
returns-in_default c =
    let unmarked = subst (λ (u : Ty). is_marked u ≡ false) c.last.view_is (unmarked_node c.last.inside.node c.in_default.not-Nullable) in
    c.loop-last.invariant (Some c.in-Some.last.now) (to_last c.in-Some.ensures unmarked)
