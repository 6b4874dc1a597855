use Rattle.std.proofs.Common.{◌≡◌, ◌+◌, ◌≤◌, true, sym, ◌∙◌, ap, subst, arith}
use Rattle.std.specs.Prelude.{◌||◌}
use Rattle.dart_types.specs.Ty.{Ty}
use Rattle.dart_types.specs.Marks.{is_marked}
use Rattle.dart_types.specs.Measure.{weight_of}
use Rattle.dart_types.specs.Normal.{nullable_of}
use Rattle.type_bounds.specs.Bounds.{Upper, UpperApart, marked_either}
use Rattle.type_bounds.proofs.BoundFalls.{marked_fall}
use Rattle.type_bounds.proofs.ChainSteps.{last_apart, last_bare, last_no_heavier, chain_left}
use Rattle.type_bounds.proofs.MeetingSteps.{bare_by, first_false, second_false, step_over}
use Rattle.type_bounds.proofs.SomeParts.{moved}
use Rattle.type_bounds.proofs.UpperSteps.{at_null_left, at_null_right}
use Rattle.type_bounds.proofs.meetings.step_apart.Goals as goal

pub returns-then-is_null : goal.returns-then-is_null
returns-then-is_null c = (
  tt,
  λ u e.
      subst (λ (v : Ty). UpperApart c.args.rows.now.table c.args.s.now c.args.t.now (nullable_of v)) (sym e)
      (at_null_left c.args.rows.now.table c.args.s.now c.args.t.now (sym c.is_null.ensures ∙ c.if-is_null.true)),
)

pub returns-then-is_null-2 : goal.returns-then-is_null-2
returns-then-is_null-2 c = (
  tt,
  λ u e.
      subst (λ (v : Ty). UpperApart c.args.rows.now.table c.args.s.now c.args.t.now (nullable_of v)) (sym e)
      (at_null_right c.args.rows.now.table c.args.s.now c.args.t.now (sym c.is_null-2.ensures ∙ c.if-is_null-2.true)),
)

-- a `?` on either side
pub returns-then-is_marked : goal.returns-then-is_marked
returns-then-is_marked c =
    let table = c.args.rows.now.table in
    let marked : (is_marked c.args.s.now || is_marked c.args.t.now) ≡ true = let e = c.is_marked.ensures in let f = c.is_marked-2.ensures in let g = c.if-is_marked.true in cc in
    let fall = marked_fall table c.args.s.now c.args.t.now marked in
    let e = ap (weight_of table) c.bare.ensures in
    let f = ap (weight_of table) c.bare-then-is_marked.ensures in (
      omega (arith, fall, e, f),
      λ u a. marked_either (sym c.is_null.ensures ∙ c.if-is_null.false) (sym c.is_null-2.ensures ∙ c.if-is_null-2.false) marked (moved (Upper table) c.bare.ensures c.bare-then-is_marked.ensures a),
    )

-- a chain of variables on the left
pub step_left-step-requires-clause-apart : goal.step_left-step-requires-clause-apart
step_left-step-requires-clause-apart c = last_apart c.args.rows.now.table c.chain_from-chain.ensures c.requires.apart

pub step_left-step-requires-clause-left : goal.step_left-step-requires-clause-left
step_left-step-requires-clause-left c =
    let unmarked = sym c.is_marked.ensures ∙ first_false c.is_marked.result c.is_marked-2.result c.if-is_marked.false in
    last_bare c.args.rows.now.table c.chain_from-chain.ensures (bare_by c.args.s.now (sym c.is_null.ensures ∙ c.if-is_null.false) unmarked)

pub step_left-step-requires-clause-right : goal.step_left-step-requires-clause-right
step_left-step-requires-clause-right c =
    let unmarked = sym c.is_marked-2.ensures ∙ second_false c.is_marked.result c.is_marked-2.result c.if-is_marked.false in
    bare_by c.args.t.now (sym c.is_null-2.ensures ∙ c.if-is_null-2.false) unmarked

pub returns : goal.returns
returns c =
    let table = c.args.rows.now.table in
    let chain = c.chain_from-chain.ensures in
    let unmarked = sym c.is_marked-2.ensures ∙ second_false c.is_marked.result c.is_marked-2.result c.if-is_marked.false in
    let bare = bare_by c.args.t.now (sym c.is_null-2.ensures ∙ c.if-is_null-2.false) unmarked in
    let least : weight_of table c.chain_from-chain.result.last.now + weight_of table c.args.t.now ≤ weight_of table c.args.s.now + weight_of table c.args.t.now = omega (arith, last_no_heavier table c.row_laws.ensures chain) in
    step_over table (weight_of table c.chain_from-chain.result.last.now + weight_of table c.args.t.now) (weight_of table c.args.s.now + weight_of table c.args.t.now)
    (UpperApart table c.chain_from-chain.result.last.now c.args.t.now) (UpperApart table c.args.s.now c.args.t.now) c.step_left-step.result.next c.step_left-step.result.marked c.chain_from-chain.result.marked least
    (λ u a. chain_left table chain c.requires.apart bare a) c.step_left-step.ensures
