use Rattle.std.proofs.Common.{◌≡◌, ◌+◌, List, take, sym, ◌∙◌, ap, subst}
use Rattle.std.specs.Prelude.{All, Contains}
use Rattle.dart_types.specs.declared.superinterfaces.Superinterface.{Superinterface}
use Rattle.type_bounds.specs.Above.{depth_in}
use Rattle.type_bounds.proofs.General.{all_done, granted}
use Rattle.type_bounds.proofs.OnePass.{IsBelow, IsFloorOver, IsNext, one_passed, one_taken, all_passed}
use Rattle.type_bounds.proofs.superclasses.Pair.top_under.Goals as goal
use Rattle.type_bounds.proofs.superclasses.Pair.top_under.Goals.{then-is_between, else-is_between}

pub loop-s-preserved : goal.loop-s-preserved
loop-s-preserved c =
    let p = c.args.self.now in
    let limit = c.args.limit in
    let items = c.superinterfaces-s-items.result.now in
    let i = c.loop-s.s-index in
    let s = c.s-item.result in
    let floor = c.loop-s.floor in
    let below = c.loop-s.invariant.0 in
    elim c.if-is_between.branch [
      | then-is_between w ↦
          let next : IsNext p limit floor s = granted c.is_between.ensures w.if-is_between.true in
          let e : c.if-is_between.floor ≡ depth_in p s + 1 = w.floor-is ∙ ap (λ n. n + 1) (w.from-floor.ensures ∙ w.depth.ensures) in
          let stands : Contains p.left.superinterfaces.now s = subst (λ (list : List Superinterface). Contains list s) c.superinterfaces-s-items.ensures (i, c.loop-s-test.true, sym c.s-item.is) in (
            one_taken p limit items i s c.loop-s-test.true c.s-item.is floor below next c.if-is_between.floor e,
            subst (λ top. IsFloorOver p limit top c.if-is_between.floor) (sym w.top-is) (stands, next.2, next.1, e),
          )
      | else-is_between w ↦
          let kept : All (IsBelow p limit floor) (take (i + 1) items) = one_passed p limit items i s c.loop-s-test.true c.s-item.is floor below c.is_between.ensures w.if-is_between.false in (
            subst (λ n. All (IsBelow p limit n) (take (i + 1) items)) (sym w.floor-is) kept,
            subst (λ top. IsFloorOver p limit top c.if-is_between.floor) (sym w.top-is) (subst (λ n. IsFloorOver p limit c.loop-s.top n) (sym w.floor-is) c.loop-s.invariant.1),
          )
    ]

pub returns : goal.returns
returns c =
    let p = c.args.self.now in
    let limit = c.args.limit in
    let below : All (IsBelow p limit c.loop-s.floor) c.superinterfaces-s-items.result.now = all_done (IsBelow p limit c.loop-s.floor) c.superinterfaces-s-items.result.now c.loop-s.s-index c.loop-s-test.false c.loop-s.invariant.0 in
    all_passed p limit c.loop-s.top c.loop-s.floor (subst (λ (list : List Superinterface). All (IsBelow p limit c.loop-s.floor) list) c.superinterfaces-s-items.ensures below) c.loop-s.invariant.1
