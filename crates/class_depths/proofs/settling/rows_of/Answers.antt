use Rattle.std.proofs.Common.{rules, ◌≡◌, [], List, length, replicate, refl, sym, subst, arith}
use Rattle.class_depths.specs.Climbing.{Climbing}
use Rattle.class_depths.specs.declared.marks.Mark.{Mark}
use Rattle.class_depths.specs.declared.marks.Mark.TheVariants.{Unseen}
use Rattle.class_depths.proofs.Ways.{start}
use Rattle.class_depths.proofs.Depths.{next_row, all_rows}
use Rattle.class_depths.proofs.settling.rows_of.Goals as goal

pub loop-place-init : goal.loop-place-init
loop-place-init c =
    let below = c.args.below.now.table in
    let declared = c.args.declared.now in
    let fresh : c.in_ok-marks.marks.items ≡ replicate (length declared) Unseen = search rules in (
      subst (λ (ms : List Mark). Climbing below declared ms []) (sym fresh) (start below declared (length declared) refl),
      search rules,
      search rules,
    )

pub loop-place-preserved : goal.loop-place-preserved
loop-place-preserved c =
    let next = next_row c.args.below.now.table c.args.declared.now c.loop-place.rows.items c.push_row.new.rows.items c.loop-place.place c.in_ok-depth.depth c.index-declared-place.result (omega arith) c.index-declared-place.is c.loop-place.invariant.1 c.loop-place.invariant.2 c.in_ok-depth.ensures.depth c.in_ok-push_row.ensures in
    (c.in_ok-depth.ensures.climbing, next.0, next.1)

pub returns-clause-ok : goal.returns-clause-ok
returns-clause-ok c = λ vars. all_rows c.args.below.now.table c.args.declared.now vars c.loop-place.rows.items c.loop-place.place (omega arith) c.loop-place.invariant.1 c.loop-place.invariant.2
