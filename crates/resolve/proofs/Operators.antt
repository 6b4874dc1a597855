-- What an operator gives, from what its sides give.
use Rattle.std.proofs.Common.{◌≡◌, ◌++◌, Option, None, Result, IfOk, refl, sym, ap, subst, ◌∙◌, append_assoc}
use Rattle.std.proofs.lemmas.Result.{IfOk-weaker}
use Rattle.dart_tree.specs.declared.places.Place.{Place}
use Rattle.dart_tree.specs.declared.operators.BinaryOperator.{BinaryOperator}
use Rattle.dart_tree.specs.declared.operators.BinaryOperatorKind.{BinaryOperatorKind}
use Rattle.dart_tree.specs.declared.operators.BinaryOperatorKind.TheVariants.{NotEqual}
use Rattle.dart_types.specs.Ty.{Ty}
use Rattle.dart_types.specs.Tables.{Table}
use Rattle.flow_model.specs.Flow.{FlowModel}
use Rattle.flow_model.specs.declared.locals.LocalId.{LocalId}
use Rattle.judgement.specs.Given.{Evaluation}
use Rattle.judgement.specs.ExpressionRows.{Judged, argument_faults, kind_row, member_operator_row, not_equal_row, operated_row, operation_of, operator_row, parameter_of, receiver_faults, result_type, where_not_null}
use Rattle.resolve.specs.Judged.{Evaluates, Has, RowEvaluates, typed_of}
use Rattle.resolve.specs.Said.{said_more}
use Rattle.resolve.specs.declared.judge.Found.{Found}
use Rattle.resolve.specs.declared.judge.Typed.{Typed}
use Rattle.resolve.proofs.Saying.{said_twice}

-- each operator but `!=` is one of a class
member_kind : (table : Table) (operator : BinaryOperator) (kind : BinaryOperatorKind) (at : Place) (compared : Option LocalId) (left : Evaluation) (right : Judged)
    → (kind ≡ NotEqual → ⊥) → member_operator_row table operator at left right ≡ kind_row table operator kind at compared left right
member_kind table operator NotEqual at compared left right other = absurd (other refl)
member_kind table operator _ at compared left right other = refl

module _ {E : Type 0} (r : Result Typed E) (table : Table) (operator : BinaryOperator) (at left_at right_at : Place) (compared : Option LocalId) (left : Evaluation) (right : Judged) where
  -- `!=`, whose sides were judged one after the other
  pub of_difference : (found mid now : Found) (first second : Typed) (local : Option LocalId) → operator.kind ≡ NotEqual → local ≡ compared
      → Evaluates found mid first left_at left → Evaluates mid now second right_at (right None first.after.value)
      → IfOk r (λ typed. Has typed at (not_equal_row table local (typed_of second) (typed_of second)))
      → IfOk r (λ typed. Evaluates found now typed at (operator_row table operator right_at compared left right))
  of_difference found mid now first second local is same one behind given =
      let other : Evaluates mid now second right_at (right None left.after) = subst (λ (m : FlowModel). Evaluates mid now second right_at (right None m)) one.after_is behind in
      let value = right None left.after in
      subst (λ (kind : BinaryOperatorKind). IfOk r (λ typed. Evaluates found now typed at (kind_row table operator kind right_at compared left right))) (sym is)
      (IfOk-weaker r (λ typed. Has typed at (not_equal_row table local (typed_of second) (typed_of second))) (λ typed. Evaluates found now typed at (not_equal_row table compared left value))
      (λ typed has. record {
        place_is = has.place_is;
        type_is = has.type_is;
        after_is = has.after_is ∙ other.after_is;
        when_true_is = has.when_true_is ∙ ap (λ (l : Option LocalId). where_not_null table l second.after.value) same ∙ ap (where_not_null table compared) other.after_is;
        when_false_is = has.when_false_is ∙ other.after_is;
        faults_are = other.faults_are ∙ ap (λ fs. fs ++ value.faults) one.faults_are ∙ append_assoc found.faults.items left.faults value.faults;
        nodes_are = other.nodes_are ∙ ap (λ ns. said_more ns value.nodes) one.nodes_are ∙ said_twice found.nodes left.nodes value.nodes;
      })
      given)

  -- an operator of a class, whose sides were judged one after the other, and then it was looked for
  pub of_operation : (found mid behind now : Found) (first second : Typed) (wanted : Option Ty) → (operator.kind ≡ NotEqual → ⊥)
      → wanted ≡ parameter_of (operation_of table first.ty operator.kind)
      → Evaluates found mid first left_at left → Evaluates mid behind second right_at (right wanted first.after.value)
      → now.nodes ≡ behind.nodes
      → IfOk r (λ typed. RowEvaluates behind.faults.items now.faults.items typed at (operated_row table operator second.at (typed_of first) (typed_of second)))
      → IfOk r (λ typed. Evaluates found now typed at (operator_row table operator right_at compared left right))
  of_operation found mid behind now first second wanted is wants one then_other same given =
      let value = right (parameter_of (operation_of table left.ty operator.kind)) left.after in
      let other : Evaluates mid behind second right_at value =
      subst (λ (m : FlowModel). Evaluates mid behind second right_at (right (parameter_of (operation_of table left.ty operator.kind)) m)) one.after_is
      (subst (λ (t : Ty). Evaluates mid behind second right_at (right (parameter_of (operation_of table t operator.kind)) first.after.value)) one.type_is
      (subst (λ (w : Option Ty). Evaluates mid behind second right_at (right w first.after.value)) wants then_other))
      in
      let own = λ (p : Place) (t u : Ty). receiver_faults table operator.span t operator.kind ++ argument_faults table p (operation_of table t operator.kind) u in
      let so_far = behind.faults.items in
      subst (λ (e : Evaluation). IfOk r (λ typed. Evaluates found now typed at e)) (member_kind table operator operator.kind right_at compared left right is)
      (IfOk-weaker r (λ typed. RowEvaluates behind.faults.items now.faults.items typed at (operated_row table operator second.at (typed_of first) (typed_of second)))
      (λ typed. Evaluates found now typed at (operated_row table operator right_at left value))
      (λ typed row. record {
        place_is = row.place_is;
        type_is =
            row.type_is
            ∙ ap (λ (t : Ty). result_type table t (operation_of table t operator.kind) second.ty) one.type_is
            ∙ ap (λ (u : Ty). result_type table left.ty (operation_of table left.ty operator.kind) u) other.type_is;
        after_is = row.after_is ∙ other.after_is;
        when_true_is = row.when_true_is ∙ other.after_is;
        when_false_is = row.when_false_is ∙ other.after_is;
        faults_are =
            row.faults_are
            ∙ ap (λ (t : Ty). so_far ++ own second.at t second.ty) one.type_is
            ∙ ap (λ (u : Ty). so_far ++ own second.at left.ty u) other.type_is
            ∙ ap (λ (p : Place). so_far ++ own p left.ty value.ty) other.place_is
            ∙ ap (λ fs. fs ++ own right_at left.ty value.ty) (other.faults_are ∙ ap (λ fs. fs ++ value.faults) one.faults_are)
            ∙ append_assoc (found.faults.items ++ left.faults) value.faults (own right_at left.ty value.ty)
            ∙ append_assoc found.faults.items left.faults (value.faults ++ own right_at left.ty value.ty);
        nodes_are = same ∙ other.nodes_are ∙ ap (λ ns. said_more ns value.nodes) one.nodes_are ∙ said_twice found.nodes left.nodes value.nodes;
      })
      given)
