use Rattle.std.proofs.Common.{◌≡◌, sym, ◌∙◌, ap, subst, arith}
use Rattle.dart_types.specs.Ty.{Ty, variable, promoted}
use Rattle.dart_types.specs.Measure.{weight_of}
use Rattle.dart_types.specs.Node.{type_of}
use Rattle.type_bounds.specs.Bounds.{UpperApart}
use Rattle.type_bounds.proofs.NonNulls.{bound_weighs, promoted_weighs}
use Rattle.type_bounds.proofs.UpperSteps.{at_variable_right, at_unbound_right, at_promoted_right}
use Rattle.type_bounds.proofs.meetings.next_right.Goals as goal

pub returns-in-None : goal.returns-in-None
returns-in-None c = (
  tt,
  λ u e.
      subst (λ (v : Ty). UpperApart c.args.rows.now.table c.args.s.now c.args.t.now v) (sym e)
      (at_unbound_right c.args.rows.now.table c.in-Var.var (sym c.t.view_is ∙ ap type_of c.in-Var.is) c.requires.left (sym c.in-None.ensures)),
)

pub returns-in-Some : goal.returns-in-Some
returns-in-Some c =
    let table = c.args.rows.now.table in
    let is : c.args.t.now ≡ variable c.in-Var.var = sym c.t.view_is ∙ ap type_of c.in-Var.is in
    let fall = bound_weighs table c.row_laws.ensures c.in-Var.var c.in-Some.bound.now (sym c.in-Some.ensures) in
    (omega (arith, fall, ap (weight_of table) is), λ u a. at_variable_right table c.in-Var.var is c.requires.left (sym c.in-Some.ensures) a)

pub returns-in-Promoted : goal.returns-in-Promoted
returns-in-Promoted c =
    let table = c.args.rows.now.table in
    let is : c.args.t.now ≡ promoted c.in-Promoted.var c.deref.result.now = sym c.t.view_is ∙ ap type_of c.in-Promoted.is ∙ ap (promoted c.in-Promoted.var) (sym c.deref.ensures) in
    let fall = promoted_weighs table c.in-Promoted.var c.deref.result.now in
    (omega (arith, fall, ap (weight_of table) is), λ u a. at_promoted_right table c.in-Promoted.var c.deref.result.now is c.requires.left a)
