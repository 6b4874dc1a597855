-- The models of each row of expressions are steps.
use Rattle.std.proofs.Common.{ℕ, Bool, true, false, List, [], ◌∷◌, ◌++◌, if◌then◌else◌, Option, Some, None}
use Rattle.std.specs.Prelude.{is_some}
use Rattle.dart_tree.specs.declared.places.Place.{Place}
use Rattle.dart_tree.specs.declared.operators.BinaryOperator.{BinaryOperator}
use Rattle.dart_tree.specs.declared.operators.BinaryOperatorKind.{BinaryOperatorKind}
use Rattle.dart_tree.specs.declared.operators.BinaryOperatorKind.TheVariants.{NotEqual}
use Rattle.dart_types.specs.Ty.{Ty, never}
use Rattle.dart_types.specs.Same.{same_type}
use Rattle.dart_types.specs.Tables.{Table}
use Rattle.flow_model.specs.Flow.{FlowModel, at_local, current_of, facts_of}
use Rattle.flow_model.specs.Assign.{assign_facts}
use Rattle.flow_model.specs.Steps.{exit_of}
use Rattle.flow_model.specs.declared.locals.Facts.{Facts}
use Rattle.flow_model.specs.declared.locals.LocalId.{LocalId}
use Rattle.judgement.specs.declared.code.DiagnosticCode.TheVariants.{IntegerLiteralOutOfRange, UnassignedRead}
use Rattle.judgement.specs.declared.meaning.Meaning.{Meaning}
use Rattle.judgement.specs.declared.meaning.Meaning.TheVariants.{Nothing, Local, Print, Class, Other}
use Rattle.judgement.specs.Surroundings.{Surroundings, lexeme_of}
use Rattle.judgement.specs.Given.{Evaluation, exits_if_never, expression_row, faulty, of_type}
use Rattle.judgement.specs.ExpressionRows.{Judged, assigned_row, boolean_row, int, integer_row, kind_row, member_operator_row, name_row, operation_of, operator_row, parameter_of, print_row, read_row, where_not_null, write_row}
use Rattle.judgement.specs.Literals.{integer_of}
use Rattle.judgement.specs.Written.{local_meant}
use Rattle.rule_laws.specs.Plain.{IsPlain}
use Rattle.rule_laws.specs.Steps.{Evaluates, IsStep}
use Rattle.rule_laws.proofs.StepLaws.{StepLaws}
use Rattle.rule_laws.proofs.StepModels.{AreWithin, within_left, step_exit, step_none, step_test, step_then, step_within, step_write}

module _ (table : Table) (laws : StepLaws table) (m : FlowModel) where
  -- One expression after what is known.

  -- it writes more than it does
  pub evaluates_within : (e : Evaluation) (v w : List LocalId) → AreWithin v w → Evaluates table m e v → Evaluates table m e w
  evaluates_within e v w within steps = record {
    after = step_within table laws m e.after v w within steps.after;
    when_true = step_within table laws m e.when_true v w within steps.when_true;
    when_false = step_within table laws m e.when_false v w within steps.when_false;
  }

  -- either of two
  evaluates_either : (b : Bool) (one other : Evaluation) (w : List LocalId) → Evaluates table m one w → Evaluates table m other w → Evaluates table m (if b then one else other) w
  evaluates_either true one other w first second = first
  evaluates_either false one other w first second = second

  -- its node's models are those of its row, or none of them is reached
  pub node_steps : (at : Place) (element : Option Meaning) (before : FlowModel) (row : Evaluation) (w : List LocalId) → Evaluates table m row w → Evaluates table m (expression_row at element before row) w
  node_steps at element before row w steps =
      let exited = record row { after = exit_of row.after; when_true = exit_of row.when_true; when_false = exit_of row.when_false } in
      let exits : Evaluates table m exited w = record {
        after = step_exit table laws m row.after w steps.after;
        when_true = step_exit table laws m row.when_true w steps.when_true;
        when_false = step_exit table laws m row.when_false w steps.when_false;
      } in
      let either : Evaluates table m (exits_if_never row) w = evaluates_either (same_type row.ty never) exited row w exits steps in
      record { after = either.after; when_true = either.when_true; when_false = either.when_false }

  -- an assignment, from what its value gives
  write_steps : (target at : Place) (var : LocalId) (local : Option Facts) (value : Evaluation) (v : List LocalId) → Evaluates table m value v → Evaluates table m (write_row table target at var local value) (v ++ var ∷ [])
  write_steps target at var None value v steps =
      let after : IsStep table m value.after (v ++ var ∷ []) = step_within table laws m value.after v (v ++ var ∷ []) (within_left v (var ∷ [])) steps.after in
      record { after = after; when_true = after; when_false = after }
  write_steps target at var (Some local) value v steps =
      let after : IsStep table m (at_local value.after var (assign_facts table value.ty)) (v ++ var ∷ []) = step_write table laws m value.after v var value.ty steps.after in
      record { after = after; when_true = after; when_false = after }

  -- to no local
  unwritten_steps : (value : Evaluation) (v : List LocalId) → Evaluates table m value v → IsStep table m value.after (v ++ [])
  unwritten_steps value v steps = step_within table laws m value.after v (v ++ []) (within_left v []) steps.after

  -- to what the target means
  pub assigned_steps : (meaning : Meaning) (target at : Place) (value : Evaluation) (v : List LocalId) → Evaluates table m value v → Evaluates table m (assigned_row table meaning target at value) (v ++ local_meant meaning)
  assigned_steps (Local var) target at value v steps = write_steps target at var (facts_of value.after var) value v steps
  assigned_steps Nothing target at value v steps =
      let after = unwritten_steps value v steps in
      record { after = after; when_true = after; when_false = after }
  assigned_steps Print target at value v steps =
      let after = unwritten_steps value v steps in
      record { after = after; when_true = after; when_false = after }
  assigned_steps (Class class) target at value v steps =
      let after = unwritten_steps value v steps in
      record { after = after; when_true = after; when_false = after }
  assigned_steps Other target at value v steps =
      let after = unwritten_steps value v steps in
      record { after = after; when_true = after; when_false = after }

  -- a call of `print`
  pub print_steps : (at : Place) (value : Evaluation) (v : List LocalId) → Evaluates table m value v → Evaluates table m (print_row table at value) v
  print_steps at value v steps = record { after = steps.after; when_true = steps.after; when_false = steps.after }

  -- where a local isn't null, or none
  not_null_steps : (compared : Option LocalId) (a : FlowModel) (w : List LocalId) → IsStep table m a w → IsStep table m (where_not_null table compared a) w
  not_null_steps None a w step = step
  not_null_steps (Some var) a w step = step_test table laws m a w var step

  module _ (operator : BinaryOperator) (at : Place) (compared : Option LocalId) (left : Evaluation) (right : Judged) (v w : List LocalId) (of_left : Evaluates table m left v)
      (of_right : (wanted : Option Ty) (k : FlowModel) → IsPlain table k → Evaluates table k (right wanted k) w) where
    -- what is known behind both sides of an operator
    both_sides : (wanted : Option Ty) → IsStep table m (right wanted left.after).after (v ++ w)
    both_sides wanted =
        step_then table laws m left.after (right wanted left.after).after v w of_left.after (of_right wanted left.after of_left.after.plain).after

    -- an operator of a class
    member_steps : Evaluates table m (member_operator_row table operator at left right) (v ++ w)
    member_steps =
        let after = both_sides (parameter_of (operation_of table left.ty operator.kind)) in
        record { after = after; when_true = after; when_false = after }

    -- an operator of a kind
    kind_steps : (kind : BinaryOperatorKind) → Evaluates table m (kind_row table operator kind at compared left right) (v ++ w)
    kind_steps NotEqual =
        let after = both_sides None in
        record { after = after; when_true = not_null_steps compared (right None left.after).after (v ++ w) after; when_false = after }
    kind_steps _ = member_steps

    -- an operator
    pub operator_steps : Evaluates table m (operator_row table operator at compared left right) (v ++ w)
    operator_steps = kind_steps operator.kind

  module _ (plain : IsPlain table m) where
    -- what says no more than before
    pub of_type_steps : (ty : Ty) (w : List LocalId) → Evaluates table m (of_type ty m) w
    of_type_steps ty w =
        let none = step_none table laws m w plain in
        record { after = none; when_true = none; when_false = none }

    -- a literal
    pub integer_steps : (s : Surroundings) (at : Place) (word : ℕ) (w : List LocalId) → Evaluates table m (integer_row s at word m) w
    integer_steps s at word w =
        let none = step_none table laws m w plain in
        evaluates_either (is_some (integer_of (lexeme_of s word))) (of_type int m) (faulty at.span IntegerLiteralOutOfRange m) w
        (of_type_steps int w)
        (record { after = none; when_true = none; when_false = none })

    -- `true` or `false`
    pub boolean_steps : (value : Bool) (w : List LocalId) → Evaluates table m (boolean_row value m) w
    boolean_steps true w =
        let none = step_none table laws m w plain in
        record { after = none; when_true = none; when_false = step_exit table laws m m w none }
    boolean_steps false w =
        let none = step_none table laws m w plain in
        record { after = none; when_true = step_exit table laws m m w none; when_false = none }

    -- a read of a local
    read_steps : (at : Place) (local : Option Facts) (w : List LocalId) → Evaluates table m (read_row at local m) w
    read_steps at None w =
        let none = step_none table laws m w plain in
        record { after = none; when_true = none; when_false = none }
    read_steps at (Some local) w =
        let none = step_none table laws m w plain in
        evaluates_either local.assigned (of_type (current_of local) m) (faulty at.span UnassignedRead m) w
        (of_type_steps (current_of local) w)
        (record { after = none; when_true = none; when_false = none })

    -- a name
    pub name_steps : (meaning : Meaning) (at : Place) (w : List LocalId) → Evaluates table m (name_row meaning at m) w
    name_steps (Local var) at w = read_steps at (facts_of m var) w
    name_steps Nothing at w =
        let none = step_none table laws m w plain in
        record { after = none; when_true = none; when_false = none }
    name_steps (Class class) at w =
        let none = step_none table laws m w plain in
        record { after = none; when_true = none; when_false = none }
    name_steps Print at w =
        let none = step_none table laws m w plain in
        record { after = none; when_true = none; when_false = none }
    name_steps Other at w =
        let none = step_none table laws m w plain in
        record { after = none; when_true = none; when_false = none }
