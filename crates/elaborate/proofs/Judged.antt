-- The code of every value that is built does what the rules say of it.
use Rattle.std.proofs.Common.{◌≡◌, Bool, true, false, cond, ◌&&◌, List, [], ◌∷◌, ◌++◌, Option, Some, None, refl, sym, ap, ◌∙◌, subst}
use Rattle.std.specs.Option.{option_map_or}
use Rattle.std.proofs.lemmas.Bool.{and_parts}
use Rattle.dart_tree.specs.Tree.{Tree, assignment, call, identifier, integer_literal, boolean_literal, null_literal, parenthesis, binary_expression}
use Rattle.dart_tree.specs.Places.{place_of}
use Rattle.dart_tree.specs.declared.operators.BinaryOperator.{BinaryOperator}
use Rattle.dart_tree.specs.declared.operators.BinaryOperatorKind.{BinaryOperatorKind}
use Rattle.dart_tree.specs.declared.operators.BinaryOperatorKind.TheVariants.{Add, Less, NotEqual}
use Rattle.dart_tree.specs.declared.places.Place.{Place}
use Rattle.dart_tree.specs.declared.places.Span.{Span}
use Rattle.dart_types.specs.Ty.{Ty}
use Rattle.dart_types.specs.Ty as ty
use Rattle.dart_types.specs.Same.{same_type}
use Rattle.flow_model.specs.Flow.{FlowModel}
use Rattle.flow_model.specs.Steps.{exit_of}
use Rattle.flow_model.specs.declared.locals.LocalId.{LocalId}
use Rattle.judgement.specs.NodeFacts.{NodeFacts}
use Rattle.judgement.specs.declared.meaning.Meaning.{Meaning}
use Rattle.judgement.specs.declared.meaning.Meaning.TheVariants.{Nothing, Local, Print, Class, Other}
use Rattle.judgement.specs.Given.{Evaluation, exits_if_never, expression_row, said_of_expression}
use Rattle.judgement.specs.ExpressionRows.{argument_faults, bool, name_row, not_equal_row, operated_row, operation_of, parameter_of, receiver_faults, where_not_null}
use Rattle.judgement.specs.Surroundings.{Names, meaning_of}
use Rattle.judgement.specs.Written.{named_by, written_in}
use Rattle.judgement.specs.Judgement as rules
use Rattle.judgement.specs.Judgement.{as_local, element_of, evaluate, is_null_literal}
use Rattle.built_forms.specs.Forms.{is_effect, is_operator, is_value}
use Rattle.rule_laws.specs.Plain.{is_value_type}
use Rattle.rule_laws.specs.Steps.{IsStep}
use Rattle.core_ir.specs.declared.points.SlotId.{SlotId}
use Rattle.core_emit.specs.declared.steps.Step.TheVariants as step
use Rattle.elaborate.specs.Sources.{local_meant, local_named, slot_at}
use Rattle.elaborate.specs.Known.{holding}
use Rattle.elaborate.specs.Rows.{compared_local, null_test, operand_of}
use Rattle.elaborate.proofs.Given.{Setting, Laws, around}
use Rattle.elaborate.proofs.Standing.{AreValues, Standing, same_slots}
use Rattle.elaborate.proofs.ValueTypes.{add_operates, left_none, less_operates, right_none}
use Rattle.elaborate.proofs.Expressions.{AreSaid, Valued, named, operand_slot, plain_row, row_none, said_last, said_left, said_right, values_with}
use Rattle.elaborate.proofs.ValueForms.{adds_lead, before_node, behind_node, boolean, compares_lead, differs_lead, in_parentheses, integer, null, operands_inside, operator_does}

-- what a value stands for where a statement may
pub effect_of_value : (outside : List Meaning) (t : Tree) → is_value outside t ≡ true → is_effect outside t ≡ true
effect_of_value outside (assignment at operator target value) built = absurd cc
effect_of_value outside (call at callee type_arguments arguments) built = absurd cc
effect_of_value outside _ built = built

-- behind a step the locals have slots as before it
pub stands_behind : (c : Setting) (m a : FlowModel) (written : List LocalId) → Standing c m → IsStep c.rows.table m a written → Standing c a
stands_behind c m a written stands step = record { plain = step.plain; slots = same_slots c a m step.same_scope stands.slots }

-- what an expression's code does, by the rules
abbrev pub Value : Setting → Names → Tree → Type 0
Value c names t = (wanted : Option Ty) (m : FlowModel) (values : List SlotId) → is_value c.outside t ≡ true → (evaluate (around c names) t wanted m).faults ≡ []
    → Standing c m → AreValues c values → AreSaid c (evaluate (around c names) t wanted m).nodes → Valued c values m t (evaluate (around c names) t wanted m)

-- what is said of the nodes of an expression doesn't depend on whether more is reached behind it
same_nodes : (b : Bool) (e : Evaluation) → (cond b (record e { after = exit_of e.after; when_true = exit_of e.when_true; when_false = exit_of e.when_false }) e).nodes ≡ e.nodes
same_nodes true e = refl
same_nodes false e = refl

pub row_said : (c : Setting) (at : Place) (element : Option Meaning) (m : FlowModel) (row : Evaluation) → AreSaid c (expression_row at element m row).nodes → AreSaid c row.nodes
row_said c at element m row said =
    subst (AreSaid c) (same_nodes (same_type row.ty ty.never) row) (said_left c (exits_if_never row).nodes (said_of_expression at.node element m (exits_if_never row) ∷ []) said)

same_local : (meaning : Meaning) → local_meant (Some meaning) ≡ as_local meaning
same_local Nothing = refl
same_local (Local var) = refl
same_local Print = refl
same_local (Class class) = refl
same_local Other = refl

module _ (c : Setting) (laws : Laws c) (names : Names) where
  -- the local that an expression names is said of its node
  pub local_same : (t : Tree) (wanted : Option Ty) (m : FlowModel) → AreSaid c (evaluate (around c names) t wanted m).nodes → local_named c.x t ≡ as_local (named_by (around c names) t)
  local_same (identifier at word) wanted m said =
      let row = name_row (meaning_of (around c names) word) at m in
      let own = said_last c (exits_if_never row).nodes (said_of_expression at.node (Some (meaning_of (around c names) word)) m (exits_if_never row)) said in
      ap (λ found. local_meant (option_map_or (λ (n : NodeFacts). n.element) found None)) own.found ∙ same_local (meaning_of (around c names) word)
  local_same (parenthesis at inner) wanted m said =
      local_same inner wanted m (row_said c at (element_of (around c names) (parenthesis at inner)) m (evaluate (around c names) inner wanted m) said)
  local_same _ wanted m said = refl

  compared_at : (left right : Tree) (right_null left_null : Bool) (a a' b b' : Option LocalId) → a ≡ a' → b ≡ b' → cond right_null a (cond left_null b None) ≡ cond right_null a' (cond left_null b' None)
  compared_at left right right_null left_null a a' b b' is is' = ap (λ v. cond right_null v (cond left_null b None)) is ∙ ap (λ v. cond right_null a' (cond left_null v None)) is'

  pub compared_same : (left right : Tree) (wanted wanted' : Option Ty) (m m' : FlowModel) → AreSaid c (evaluate (around c names) left wanted m).nodes → AreSaid c (evaluate (around c names) right wanted' m').nodes
      → compared_local c.x left right ≡ rules.compared_local (around c names) left right
  compared_same left right wanted wanted' m m' said said' =
      compared_at left right (is_null_literal right) (is_null_literal left) (local_named c.x left) (as_local (named_by (around c names) left)) (local_named c.x right) (as_local (named_by (around c names) right)) (local_same left wanted m said) (local_same right wanted' m' said')

  -- where a comparison is no test for null, it tells nothing
  untested : (compared : Option LocalId) → null_test c.x NotEqual compared ≡ None → compared ≡ None
  untested None test = refl
  untested (Some var) test = absurd cc

  -- behind a value the locals have slots
  pub stands_after : (t : Tree) (wanted : Option Ty) (m : FlowModel) → is_value c.outside t ≡ true → (evaluate (around c names) t wanted m).faults ≡ [] → Standing c m → Standing c (evaluate (around c names) t wanted m).after
  stands_after t wanted m built none stands =
      let steps = laws.values names t wanted m (effect_of_value c.outside t built) none stands.plain in
      stands_behind c m (evaluate (around c names) t wanted m).after (written_in (around c names) t) stands steps.after

  binary_at : (at : Place) (kind : BinaryOperatorKind) (span : Span) (left right : Tree) (wanted : Option Ty) (m : FlowModel) (values : List SlotId) → Value c names left → Value c names right
      → (is_operator kind && (is_value c.outside left && is_value c.outside right)) ≡ true
      → (evaluate (around c names) (binary_expression at (record { kind = kind; span = span }) left right) wanted m).faults ≡ [] → Standing c m → AreValues c values
      → AreSaid c (evaluate (around c names) (binary_expression at (record { kind = kind; span = span }) left right) wanted m).nodes
      → Valued c values m (binary_expression at (record { kind = kind; span = span }) left right) (evaluate (around c names) (binary_expression at (record { kind = kind; span = span }) left right) wanted m)
  binary_at at Add span left right wanted m values one other built none stands are said =
      let s = around c names in
      let operator : BinaryOperator = record { kind = Add; span = span } in
      let e = evaluate s left None m in
      let e' = evaluate s right (parameter_of (operation_of c.rows.table e.ty Add)) e.after in
      let row = operated_row c.rows.table operator (place_of right) e e' in
      let parts = and_parts (is_value c.outside left) (is_value c.outside right) built in
      let nothing_wrong = row_none at None m row none in
      let nodes = row_said c at None m row said in
      let e_none = left_none e.faults (e'.faults ++ (receiver_faults c.rows.table span e.ty Add ++ argument_faults c.rows.table (place_of right) (operation_of c.rows.table e.ty Add) e'.ty)) nothing_wrong in
      let rest = right_none e.faults (e'.faults ++ (receiver_faults c.rows.table span e.ty Add ++ argument_faults c.rows.table (place_of right) (operation_of c.rows.table e.ty Add) e'.ty)) nothing_wrong in
      let e'_none = left_none e'.faults (receiver_faults c.rows.table span e.ty Add ++ argument_faults c.rows.table (place_of right) (operation_of c.rows.table e.ty Add) e'.ty) rest in
      let own_none = right_none e'.faults (receiver_faults c.rows.table span e.ty Add ++ argument_faults c.rows.table (place_of right) (operation_of c.rows.table e.ty Add) e'.ty) rest in
      let l = one None m values parts.0 e_none stands are (said_left c e.nodes e'.nodes nodes) in
      let stands_l = stands_after left None m parts.0 e_none stands in
      let held = values_with c laws values (operand_of c.x left) e.ty are l.operand in
      let r = other (parameter_of (operation_of c.rows.table e.ty Add)) e.after (holding values (operand_of c.x left)) parts.1 e'_none stands_l held (said_right c e.nodes e'.nodes nodes) in
      let stands_r = stands_after right (parameter_of (operation_of c.rows.table e.ty Add)) e.after parts.1 e'_none stands_l in
      let operates = add_operates c laws span (place_of right) e.ty e'.ty l.value r.value
      (left_none (receiver_faults c.rows.table span e.ty Add) (argument_faults c.rows.table (place_of right) (operation_of c.rows.table e.ty Add) e'.ty) own_none)
      (right_none (receiver_faults c.rows.table span e.ty Add) (argument_faults c.rows.table (place_of right) (operation_of c.rows.table e.ty Add) e'.ty) own_none) in
      let value = subst (λ (t : Ty). is_value_type t ≡ true) (sym operates.gives) refl in
      let is = plain_row at None m row value in
      let own = said_last c row.nodes (said_of_expression at.node None m row) (subst (λ (k : Evaluation). AreSaid c k.nodes) is said) in
      let slot = own.value row.ty refl in
      subst (λ (k : Evaluation). Valued c values m (binary_expression at operator left right) k) (sym is) (record {
        does = operator_does c laws at operator left right m values e e' stands_r are l r row.ty slot (step.Add (slot_at c.x at) (operand_of c.x left) (operand_of c.x right)) refl (operands_inside c laws at operator left right m values e e' stands_r are l r row.ty slot slot.0)
            (λ reached f' tells. adds_lead c laws at operator left right m values e e' stands_r are l r row.ty slot reached f' tells operates.gives (record { one = operates.one; other = operates.other; gives = operates.gives }));
        operand = operand_slot c (slot_at c.x at) row.ty slot;
        value = value;
        before = before_node c laws at (said_of_expression at.node None m row) own refl;
        behind = behind_node c laws at (said_of_expression at.node None m row) own refl;
        when_true = λ test no_truth. refl;
        when_false = λ test no_truth. refl;
      })
  binary_at at Less span left right wanted m values one other built none stands are said =
      let s = around c names in
      let operator : BinaryOperator = record { kind = Less; span = span } in
      let e = evaluate s left None m in
      let e' = evaluate s right (parameter_of (operation_of c.rows.table e.ty Less)) e.after in
      let row = operated_row c.rows.table operator (place_of right) e e' in
      let parts = and_parts (is_value c.outside left) (is_value c.outside right) built in
      let nothing_wrong = row_none at None m row none in
      let nodes = row_said c at None m row said in
      let e_none = left_none e.faults (e'.faults ++ (receiver_faults c.rows.table span e.ty Less ++ argument_faults c.rows.table (place_of right) (operation_of c.rows.table e.ty Less) e'.ty)) nothing_wrong in
      let rest = right_none e.faults (e'.faults ++ (receiver_faults c.rows.table span e.ty Less ++ argument_faults c.rows.table (place_of right) (operation_of c.rows.table e.ty Less) e'.ty)) nothing_wrong in
      let e'_none = left_none e'.faults (receiver_faults c.rows.table span e.ty Less ++ argument_faults c.rows.table (place_of right) (operation_of c.rows.table e.ty Less) e'.ty) rest in
      let own_none = right_none e'.faults (receiver_faults c.rows.table span e.ty Less ++ argument_faults c.rows.table (place_of right) (operation_of c.rows.table e.ty Less) e'.ty) rest in
      let l = one None m values parts.0 e_none stands are (said_left c e.nodes e'.nodes nodes) in
      let stands_l = stands_after left None m parts.0 e_none stands in
      let held = values_with c laws values (operand_of c.x left) e.ty are l.operand in
      let r = other (parameter_of (operation_of c.rows.table e.ty Less)) e.after (holding values (operand_of c.x left)) parts.1 e'_none stands_l held (said_right c e.nodes e'.nodes nodes) in
      let stands_r = stands_after right (parameter_of (operation_of c.rows.table e.ty Less)) e.after parts.1 e'_none stands_l in
      let operates = less_operates c laws span (place_of right) e.ty e'.ty l.value r.value
      (left_none (receiver_faults c.rows.table span e.ty Less) (argument_faults c.rows.table (place_of right) (operation_of c.rows.table e.ty Less) e'.ty) own_none)
      (right_none (receiver_faults c.rows.table span e.ty Less) (argument_faults c.rows.table (place_of right) (operation_of c.rows.table e.ty Less) e'.ty) own_none) in
      let value = subst (λ (t : Ty). is_value_type t ≡ true) (sym operates.gives) refl in
      let is = plain_row at None m row value in
      let own = said_last c row.nodes (said_of_expression at.node None m row) (subst (λ (k : Evaluation). AreSaid c k.nodes) is said) in
      let slot = own.value row.ty refl in
      subst (λ (k : Evaluation). Valued c values m (binary_expression at operator left right) k) (sym is) (record {
        does = operator_does c laws at operator left right m values e e' stands_r are l r row.ty slot (step.Less (slot_at c.x at) (operand_of c.x left) (operand_of c.x right)) refl (operands_inside c laws at operator left right m values e e' stands_r are l r row.ty slot slot.0)
            (λ reached f' tells. compares_lead c laws at operator left right m values e e' stands_r are l r row.ty slot reached f' tells operates.gives (record { one = operates.one; other = operates.other; gives = operates.gives }));
        operand = operand_slot c (slot_at c.x at) row.ty slot;
        value = value;
        before = before_node c laws at (said_of_expression at.node None m row) own refl;
        behind = behind_node c laws at (said_of_expression at.node None m row) own refl;
        when_true = λ test no_truth. refl;
        when_false = λ test no_truth. refl;
      })
  binary_at at NotEqual span left right wanted m values one other built none stands are said =
      let s = around c names in
      let operator : BinaryOperator = record { kind = NotEqual; span = span } in
      let e = evaluate s left None m in
      let e' = evaluate s right None e.after in
      let compared = rules.compared_local s left right in
      let row = not_equal_row c.rows.table compared e e' in
      let parts = and_parts (is_value c.outside left) (is_value c.outside right) built in
      let nothing_wrong = row_none at None m row none in
      let nodes = row_said c at None m row said in
      let e_none = left_none e.faults e'.faults nothing_wrong in
      let e'_none = right_none e.faults e'.faults nothing_wrong in
      let l = one None m values parts.0 e_none stands are (said_left c e.nodes e'.nodes nodes) in
      let stands_l = stands_after left None m parts.0 e_none stands in
      let held = values_with c laws values (operand_of c.x left) e.ty are l.operand in
      let r = other None e.after (holding values (operand_of c.x left)) parts.1 e'_none stands_l held (said_right c e.nodes e'.nodes nodes) in
      let stands_r = stands_after right None e.after parts.1 e'_none stands_l in
      let is = plain_row at None m row refl in
      let own = said_last c row.nodes (said_of_expression at.node None m row) (subst (λ (k : Evaluation). AreSaid c k.nodes) is said) in
      let slot = own.value bool refl in
      let same = compared_same left right None None m e.after (said_left c e.nodes e'.nodes nodes) (said_right c e.nodes e'.nodes nodes) in
      subst (λ (k : Evaluation). Valued c values m (binary_expression at operator left right) k) (sym is) (record {
        does = operator_does c laws at operator left right m values e e' stands_r are l r bool slot (step.NotEqual (slot_at c.x at) (operand_of c.x left) (operand_of c.x right)) refl (operands_inside c laws at operator left right m values e e' stands_r are l r bool slot slot.0)
            (λ reached f' tells. differs_lead c laws at operator left right m values e e' stands_r are l r bool slot reached f' tells refl);
        operand = operand_slot c (slot_at c.x at) bool slot;
        value = refl;
        before = before_node c laws at (said_of_expression at.node None m row) own refl;
        behind = behind_node c laws at (said_of_expression at.node None m row) own refl;
        when_true = λ test no_truth. ap (λ v. where_not_null c.rows.table v e'.after) (sym same ∙ untested (compared_local c.x left right) test);
        when_false = λ test no_truth. refl;
      })
  binary_at at _ span left right wanted m values one other built none stands are said = absurd cc

  -- every value
  pub valued : (t : Tree) → Value c names t
  valued (identifier at word) wanted m values built none stands are said = named c laws names at word wanted m values built none stands are said
  valued (integer_literal at word) wanted m values built none stands are said = integer c laws names at word wanted m values none said
  valued (boolean_literal at value) wanted m values built none stands are said = boolean c laws names at value wanted m values said
  valued (null_literal at) wanted m values built none stands are said = null c laws names at wanted m values said
  valued (parenthesis at inner) wanted m values built none stands are said =
      let e = evaluate (around c names) inner wanted m in
      let element = element_of (around c names) (parenthesis at inner) in
      in_parentheses c laws names at inner wanted m values said
      (valued inner wanted m values built (row_none at element m e none) stands are (row_said c at element m e said))
  valued (binary_expression at operator left right) wanted m values built none stands are said =
      binary_at at operator.kind operator.span left right wanted m values (valued left) (valued right) built none stands are said
  valued _ wanted m values built none stands are said = absurd cc
