use Rattle.std.proofs.Common.{◌≡◌, ℕ, ◌<◌, ◌≤◌, List, length, get_or, Contains, refl, sym, ◌+◌, subst, arith}
use Rattle.dart_types.specs.Ty.{Ty}
use Rattle.class_depths.specs.Marked.{IsAbove, class_at}
use Rattle.class_depths.specs.Climbing.{IsPartly}
use Rattle.class_depths.specs.declared.marks.Above.{Above}
use Rattle.class_depths.specs.declared.marks.Mark.TheVariants.{Unseen, Open}
use Rattle.class_depths.proofs.Turning.{next_partly, all_gone, leads}
use Rattle.class_depths.proofs.climbing.go_on.Goals as goal

-- a direct supertype that is read stands among those of the class
pub stands : (supers own : List Ty) (i : ℕ) (v : Ty) → supers ≡ own → i < length supers → v ≡ get_or supers i v → Contains own v
stands supers own i v same lt is = subst (λ (vs : List Ty). Contains vs v) same (i, lt, sym is)

pub returns-in-Ahead-clause-ok : goal.returns-in-Ahead-clause-ok
returns-in-Ahead-clause-ok c =
    let below = c.args.below.now.table in
    let declared = c.args.declared.now in
    let v = c.index-supers-i.result in
    let known = subst (λ (a : Above). IsAbove below declared c.args.marks.now v a) c.in-Ahead.is c.above.ensures in (
      refl,
      c.loop-i.invariant,
      leads below declared c.requires.in_order c.args.marks.now c.args.step c.in-Ahead.place Unseen v c.requires.place
          (stands c.supers_at-supers.result.now (class_at declared c.args.step.place).supers c.loop-i.i v c.supers_at-supers.ensures c.loop-i-test.true c.index-supers-i.is)
          known.0 known.1 known.2,
    )

pub returns-in-Behind-clause-ok : goal.returns-in-Behind-clause-ok
returns-in-Behind-clause-ok c =
    let below = c.args.below.now.table in
    let declared = c.args.declared.now in
    let v = c.index-supers-i.result in
    let known = subst (λ (a : Above). IsAbove below declared c.args.marks.now v a) c.in-Behind.is c.above.ensures in
    leads below declared c.requires.in_order c.args.marks.now c.args.step c.in-Behind.place Open v c.requires.place
    (stands c.supers_at-supers.result.now (class_at declared c.args.step.place).supers c.loop-i.i v c.supers_at-supers.ensures c.loop-i-test.true c.index-supers-i.is)
    known.0 known.1 known.2

pub loop-i-preserved : goal.loop-i-preserved
loop-i-preserved c =
    let below = c.args.below.now.table in
    let declared = c.args.declared.now in
    let p = c.args.step.place in
    let v = c.index-supers-i.result in
    let same = c.supers_at-supers.ensures in
    let known = subst (λ (a : Above). IsAbove below declared c.args.marks.now v a) c.in-Known.is c.above.ensures in
    let lt : c.loop-i.i < length (class_at declared p).supers = subst (λ (vs : List Ty). c.loop-i.i < length vs) same c.loop-i-test.true in
    let is : v ≡ get_or (class_at declared p).supers c.loop-i.i v = subst (λ (vs : List Ty). v ≡ get_or vs c.loop-i.i v) same c.index-supers-i.is in
    let next = next_partly below declared p c.loop-i.i c.loop-i.depth v c.in-Known.known lt is known c.loop-i.invariant in
    subst (λ (n : ℕ). IsPartly below declared (record { place = p; gone = c.loop-i.i + 1; depth = n })) (sym c.in_ok-depth-in-Known.ensures.ok) next

pub returns-clause-ok : goal.returns-clause-ok
returns-clause-ok c =
    let declared = c.args.declared.now in
    let p = c.args.step.place in
    let end : length (class_at declared p).supers ≤ c.loop-i.i = subst (λ (vs : List Ty). length vs ≤ c.loop-i.i) c.supers_at-supers.ensures (omega arith) in
    all_gone c.args.below.now.table declared p c.loop-i.i c.loop-i.depth end c.loop-i.invariant
