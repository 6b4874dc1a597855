use Rattle.std.proofs.Common.{◌≡◌, ◌+◌, ◌≤◌, sym, ◌∙◌, ap, subst, arith}
use Rattle.dart_types.specs.Ty.{Ty, variable, promoted}
use Rattle.dart_types.specs.Measure.{weight_of}
use Rattle.dart_types.specs.Node.{type_of}
use Rattle.type_bounds.specs.Bounds.{UpperApart}
use Rattle.type_bounds.specs.Chains.{marked_by}
use Rattle.type_bounds.proofs.ChainSteps.{settled_node, last_apart_right, last_bare, last_no_heavier, chain_right}
use Rattle.type_bounds.proofs.MeetingSteps.{next_over}
use Rattle.type_bounds.proofs.NonNulls.{bound_weighs, promoted_weighs}
use Rattle.type_bounds.proofs.UpperSteps.{at_variable_left, at_unbound_left, at_promoted_twice, at_promoted_left}
use Rattle.type_bounds.proofs.meetings.step_left.Goals as goal

pub returns-in-None : goal.returns-in-None
returns-in-None c = (
  tt,
  λ u e.
      subst (λ (v : Ty). UpperApart c.args.rows.now.table c.args.s.now c.args.t.now v) (sym e)
      (at_unbound_left c.args.rows.now.table c.in-Var.var (sym c.s.view_is ∙ ap type_of c.in-Var.is) c.requires.right (sym c.in-None.ensures)),
)

pub returns-in-Some : goal.returns-in-Some
returns-in-Some c =
    let table = c.args.rows.now.table in
    let is : c.args.s.now ≡ variable c.in-Var.var = sym c.s.view_is ∙ ap type_of c.in-Var.is in
    let fall = bound_weighs table c.row_laws.ensures c.in-Var.var c.in-Some.bound.now (sym c.in-Some.ensures) in
    (omega (arith, fall, ap (weight_of table) is), λ u a. at_variable_left table c.in-Var.var is c.requires.right (sym c.in-Some.ensures) a)

pub returns-then-is_promoted_from : goal.returns-then-is_promoted_from
returns-then-is_promoted_from c = (
  tt,
  λ u e.
      subst (λ (v : Ty). UpperApart c.args.rows.now.table c.args.s.now c.args.t.now v) (sym e)
      (at_promoted_twice c.args.rows.now.table c.args.t.now c.in-Promoted.var c.in-Promoted.to.value (sym c.s.view_is ∙ ap type_of c.in-Promoted.is) (sym c.is_promoted_from.ensures ∙ c.if-is_promoted_from.true)),
)

pub returns-else-is_promoted_from : goal.returns-else-is_promoted_from
returns-else-is_promoted_from c =
    let table = c.args.rows.now.table in
    let is : c.args.s.now ≡ promoted c.in-Promoted.var c.deref.result.now = sym c.s.view_is ∙ ap type_of c.in-Promoted.is ∙ ap (promoted c.in-Promoted.var) (sym c.deref.ensures) in
    let fall = promoted_weighs table c.in-Promoted.var c.deref.result.now in
    (omega (arith, fall, ap (weight_of table) is), λ u a. at_promoted_left table c.in-Promoted.var c.deref.result.now is c.requires.right (sym c.is_promoted_from.ensures ∙ c.if-is_promoted_from.false) a)

-- a settled left type, and a chain on the right
pub next_right-requires : goal.next_right-requires
next_right-requires c =
    let table = c.args.rows.now.table in
    let chain = c.chain_from-chain.ensures in
    record {
      apart = last_apart_right table chain c.requires.apart;
      left = settled_node c.s.inside.node c.s.view_is c.in_default.not-Var c.in_default.not-Promoted c.requires.left;
      right = last_bare table chain c.requires.right;
    }

pub returns-in_default : goal.returns-in_default
returns-in_default c =
    let table = c.args.rows.now.table in
    let chain = c.chain_from-chain.ensures in
    let settled = settled_node c.s.inside.node c.s.view_is c.in_default.not-Var c.in_default.not-Promoted c.requires.left in
    let least : weight_of table c.args.s.now + weight_of table c.chain_from-chain.result.last.now ≤ weight_of table c.args.s.now + weight_of table c.args.t.now = omega (arith, last_no_heavier table c.row_laws.ensures chain) in
    next_over table (weight_of table c.args.s.now + weight_of table c.chain_from-chain.result.last.now) (weight_of table c.args.s.now + weight_of table c.args.t.now)
    (UpperApart table c.args.s.now c.chain_from-chain.result.last.now) (λ u. UpperApart table c.args.s.now c.args.t.now (marked_by c.chain_from-chain.result.marked u)) c.next_right.result least
    (λ u a. chain_right table chain c.requires.apart settled a) c.next_right.ensures
