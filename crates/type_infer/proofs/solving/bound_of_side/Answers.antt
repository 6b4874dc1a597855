use Rattle.std.proofs.Common.{◌∙◌, ◌+◌, List, drop, Option, sym, ap, subst}
use Rattle.std.proofs.lemmas.List.{drop_all}
use Rattle.dart_types.specs.Ty.{Ty}
use Rattle.dart_types.specs.Same.{same_var}
use Rattle.type_infer.specs.Constraints.{same_side, types_on}
use Rattle.type_infer.specs.Solves.{bound_on, Folds}
use Rattle.type_infer.proofs.FoldSteps.{taken, left_out, other_side, other_param, IsFolding, folding_goes_on, folding_refused, folding_ends}
use Rattle.type_infer.proofs.HandOn.{handed_on}
use Rattle.type_infer.proofs.solving.bound_of_side.Goals as goal
use Rattle.type_infer.proofs.solving.bound_of_side.Goals.{then-is+then-eq+in_ok-more, else-is, else-is-via-then-is+else-eq, else-is-via-else-is}

-- a type on the way is too large
pub returns-in_err-more : goal.returns-in_err-more
returns-in_err-more c =
    let bound = bound_on c.args.side c.args.rows.now.table in
    let all = types_on c.args.side c.args.param c.args.found.now in
    let item = c.constraint-item.result in
    let there = taken c.args.side c.args.param c.args.found.now c.loop-constraint.constraint-index item c.loop-constraint-test.true c.constraint-item.is (sym c.is.ensures ∙ c.if-is.true) (sym c.eq.ensures ∙ c.if-eq.true) in
    let way = subst (λ (ts : List Ty). IsFolding bound all ts c.loop-constraint.bound) there c.loop-constraint.invariant in
    handed_on (Folds bound all) c.from_residual.result c.in_err-more.field-0.0 c.from_residual.ensures.1
    (folding_refused bound item.ty c.in_err-more.field-0.0 c.in_err-more.ensures way)

-- a constraint is taken, or it is on the other side or on another parameter
pub loop-constraint-preserved : goal.loop-constraint-preserved
loop-constraint-preserved c =
    let bound = bound_on c.args.side c.args.rows.now.table in
    let all = types_on c.args.side c.args.param c.args.found.now in
    let i = c.loop-constraint.constraint-index in
    let item = c.constraint-item.result in
    let left = types_on c.args.side c.args.param (drop (i + 1) c.args.found.now) in
    elim c.if-is.branch [
      | then-is+then-eq+in_ok-more w ↦
          let there = taken c.args.side c.args.param c.args.found.now i item c.loop-constraint-test.true c.constraint-item.is (sym c.is.ensures ∙ w.if-is.true) (sym w.eq.ensures ∙ w.if-eq.true) in
          let way = subst (λ (ts : List Ty). IsFolding bound all ts c.loop-constraint.bound) there c.loop-constraint.invariant in
          subst (λ (o : Option Ty). IsFolding bound all left o) (sym w.bound-is) (folding_goes_on bound item.ty w.in_ok-more.more w.in_ok-more.ensures way)
      | else-is w ↦
          subst (λ (o : Option Ty). IsFolding bound all left o) (sym w.bound-is)
          (elim w.else-is.branch [
            | else-is-via-then-is+else-eq w' ↦
                let there = left_out c.args.side c.args.param c.args.found.now i item c.loop-constraint-test.true c.constraint-item.is (other_param (same_side item.side c.args.side) (sym w'.eq.ensures ∙ w'.if-eq.false)) in
                subst (λ (ts : List Ty). IsFolding bound all ts c.loop-constraint.bound) there c.loop-constraint.invariant
            | else-is-via-else-is w' ↦
                let there = left_out c.args.side c.args.param c.args.found.now i item c.loop-constraint-test.true c.constraint-item.is (other_side (same_var item.param c.args.param) (sym c.is.ensures ∙ w'.if-is.false)) in
                subst (λ (ts : List Ty). IsFolding bound all ts c.loop-constraint.bound) there c.loop-constraint.invariant
          ])
    ]

pub returns : goal.returns
returns c =
    let bound = bound_on c.args.side c.args.rows.now.table in
    let none = ap (types_on c.args.side c.args.param) (drop_all c.loop-constraint.constraint-index c.args.found.now c.loop-constraint-test.false) in
    folding_ends bound none c.loop-constraint.invariant
