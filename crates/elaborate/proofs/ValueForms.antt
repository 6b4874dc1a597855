-- The code of each form of a value does what the rules say of it.
use Rattle.std.proofs.Common.{◌≡◌, ℕ, Bool, true, false, cond, nat_eq, List, [], ◌∷◌, ◌++◌, Option, Some, None, is_some, refl, sym, ap, ◌∙◌, subst, IsTrue}
use Rattle.std.specs.Prelude.{All, find}
use Rattle.std.specs.Option.{option_map_or}
use Rattle.dart_tree.specs.Tree.{Tree, integer_literal, boolean_literal, null_literal, parenthesis, binary_expression}
use Rattle.dart_tree.specs.Places.{place_of}
use Rattle.dart_tree.specs.declared.operators.BinaryOperator.{BinaryOperator}
use Rattle.dart_tree.specs.declared.places.Place.{Place}
use Rattle.dart_types.specs.Ty.{Ty}
use Rattle.dart_types.specs.Ty as ty
use Rattle.flow_model.specs.Flow.{FlowModel}
use Rattle.judgement.specs.NodeFacts.{NodeFacts}
use Rattle.judgement.specs.Given.{Evaluation, expression_row, faulty, of_type, said_of_expression, with_node}
use Rattle.judgement.specs.ExpressionRows.{boolean_row, integer_row, int, bool}
use Rattle.judgement.specs.Literals.{integer_of}
use Rattle.judgement.specs.Surroundings.{Names, lexeme_of}
use Rattle.judgement.specs.Judgement.{element_of, evaluate}
use Rattle.judgement.specs.declared.code.DiagnosticCode.TheVariants.{IntegerLiteralOutOfRange}
use Rattle.core_ir.specs.PointFacts.{PointFacts}
use Rattle.core_ir.specs.Values.{declared_at}
use Rattle.core_ir.specs.declared.points.PointId.{PointId}
use Rattle.core_ir.specs.declared.points.SlotId.{SlotId}
use Rattle.core_emit.specs.Code.{Code, leaf, nothing}
use Rattle.core_emit.specs.declared.steps.Step.{Step}
use Rattle.core_emit.specs.declared.steps.Step.TheVariants as step
use Rattle.core_emit.specs.Emitted.{IsStepOf, StepLeads}
use Rattle.core_check.specs.NamedSlots.{to_both_in}
use Rattle.core_check.specs.Shapes.{names as slots_named}
use Rattle.core_check.specs.WellFormed.{IsSlot}
use Rattle.elaborate.specs.Sources.{nowhere, known_before, known_behind, slot_at}
use Rattle.elaborate.specs.Known.{facts, holding}
use Rattle.elaborate.specs.Rows.{code_of, operand_of, operator_row, operator_step, site_of, step_at}
use Rattle.elaborate.proofs.Given.{Setting, Laws, around}
use Rattle.elaborate.proofs.Standing.{AreValues, IsValueSlot, Standing}
use Rattle.elaborate.proofs.Tells.{Tells}
use Rattle.elaborate.proofs.Claims.{Does, does_both, does_nothing, does_step}
use Rattle.elaborate.proofs.Inside.{facts_inside}
use Rattle.elaborate.proofs.Leaves.{Has, add_leads, compare_leads, differ_leads}
use Rattle.elaborate.proofs.Points.{gives_value, unshared}
use Rattle.elaborate.proofs.ValueTypes.{Operates}
use Rattle.elaborate.proofs.Expressions.{AreSaid, IsOperandOf, IsSaid, Valued, fewer_held, has_operand, held_still, held_with, operand_inside, plain_row, row_none, said_last, values_with}

module _ (c : Setting) (laws : Laws c) where
  -- what is known around a node of which this is said
  pub before_node : (at : Place) (said : NodeFacts) → IsSaid c said → said.node ≡ at.node → known_before c.x at ≡ said.before
  before_node at said is same =
      ap (λ n. option_map_or (λ (k : NodeFacts). k.before) (find (λ (k : NodeFacts). nat_eq k.node.0 n) c.x.typed) nowhere) (ap (λ n. n.0) (sym same))
      ∙ ap (λ found. option_map_or (λ (k : NodeFacts). k.before) found nowhere) is.found

  pub behind_node : (at : Place) (said : NodeFacts) → IsSaid c said → said.node ≡ at.node → known_behind c.x at ≡ said.after
  behind_node at said is same =
      ap (λ n. option_map_or (λ (k : NodeFacts). k.after) (find (λ (k : NodeFacts). nat_eq k.node.0 n) c.x.typed) nowhere) (ap (λ n. n.0) (sym same))
      ∙ ap (λ found. option_map_or (λ (k : NodeFacts). k.after) found nowhere) is.found

  -- Literals.
  integer_at : (names : Names) (at : Place) (word : ℕ) (m : FlowModel) (b : Bool) → is_some (integer_of (lexeme_of (around c names) word)) ≡ b → (integer_row (around c names) at word m).faults ≡ [] → integer_row (around c names) at word m ≡ of_type int m
  integer_at names at word m true is none = ap (λ b. cond b (of_type int m) (faulty at.span IntegerLiteralOutOfRange m)) is
  integer_at names at word m false is none =
      absurd (let some = sym (ap (λ (e : Evaluation). e.faults) (ap (λ b. cond b (of_type int m) (faulty at.span IntegerLiteralOutOfRange m)) is)) ∙ none in cc)

  pub integer : (names : Names) (at : Place) (word : ℕ) (wanted : Option Ty) (m : FlowModel) (values : List SlotId)
      → (evaluate (around c names) (integer_literal at word) wanted m).faults ≡ [] → AreSaid c (evaluate (around c names) (integer_literal at word) wanted m).nodes
      → Valued c values m (integer_literal at word) (evaluate (around c names) (integer_literal at word) wanted m)
  unfolding IsOperandOf
  integer names at word wanted m values none said =
      let row = integer_row (around c names) at word m in
      let gives = integer_at names at word m (is_some (integer_of (lexeme_of (around c names) word))) refl (row_none at None m row none) in
      let is : evaluate (around c names) (integer_literal at word) wanted m ≡ with_node at.node None m (of_type int m) = ap (expression_row at None m) gives ∙ plain_row at None m (of_type int m) refl in
      let own = said_last c [] (said_of_expression at.node None m (of_type int m)) (subst (λ (e : Evaluation). AreSaid c e.nodes) is said) in
      subst (λ (e : Evaluation). Valued c values m (integer_literal at word) e) (sym is) (record {
        does = does_nothing c laws (facts c.x m values);
        operand = refl;
        value = refl;
        before = before_node at (said_of_expression at.node None m (of_type int m)) own refl;
        behind = behind_node at (said_of_expression at.node None m (of_type int m)) own refl;
        when_true = λ test other. refl;
        when_false = λ test other. refl;
      })

  pub null : (names : Names) (at : Place) (wanted : Option Ty) (m : FlowModel) (values : List SlotId) → AreSaid c (evaluate (around c names) (null_literal at) wanted m).nodes
      → Valued c values m (null_literal at) (evaluate (around c names) (null_literal at) wanted m)
  unfolding IsOperandOf
  null names at wanted m values said =
      let own = said_last c [] (said_of_expression at.node None m (of_type ty.null m)) said in
      record {
        does = does_nothing c laws (facts c.x m values);
        operand = refl;
        value = refl;
        before = before_node at (said_of_expression at.node None m (of_type ty.null m)) own refl;
        behind = behind_node at (said_of_expression at.node None m (of_type ty.null m)) own refl;
        when_true = λ test other. refl;
        when_false = λ test other. refl;
      }

  pub boolean : (names : Names) (at : Place) (b : Bool) (wanted : Option Ty) (m : FlowModel) (values : List SlotId) → AreSaid c (evaluate (around c names) (boolean_literal at b) wanted m).nodes
      → Valued c values m (boolean_literal at b) (evaluate (around c names) (boolean_literal at b) wanted m)
  unfolding IsOperandOf
  boolean names at true wanted m values said =
      let own = said_last c [] (said_of_expression at.node None m (boolean_row true m)) said in
      record {
        does = does_nothing c laws (facts c.x m values);
        operand = refl;
        value = refl;
        before = before_node at (said_of_expression at.node None m (boolean_row true m)) own refl;
        behind = behind_node at (said_of_expression at.node None m (boolean_row true m)) own refl;
        when_true = λ test other. refl;
        when_false = λ test other. absurd (other refl);
      }
  boolean names at false wanted m values said =
      let own = said_last c [] (said_of_expression at.node None m (boolean_row false m)) said in
      record {
        does = does_nothing c laws (facts c.x m values);
        operand = refl;
        value = refl;
        before = before_node at (said_of_expression at.node None m (boolean_row false m)) own refl;
        behind = behind_node at (said_of_expression at.node None m (boolean_row false m)) own refl;
        when_true = λ test other. absurd (other refl);
        when_false = λ test other. refl;
      }

  -- Parentheses hand on all.
  pub in_parentheses : (names : Names) (at : Place) (inner : Tree) (wanted : Option Ty) (m : FlowModel) (values : List SlotId) → AreSaid c (evaluate (around c names) (parenthesis at inner) wanted m).nodes
      → Valued c values m inner (evaluate (around c names) inner wanted m)
      → Valued c values m (parenthesis at inner) (evaluate (around c names) (parenthesis at inner) wanted m)
  in_parentheses names at inner wanted m values said valued =
      let e = evaluate (around c names) inner wanted m in
      let element = element_of (around c names) (parenthesis at inner) in
      let is : evaluate (around c names) (parenthesis at inner) wanted m ≡ with_node at.node element m e = plain_row at element m e valued.value in
      let own = said_last c e.nodes (said_of_expression at.node element m e) (subst (λ (k : Evaluation). AreSaid c k.nodes) is said) in
      subst (λ (k : Evaluation). Valued c values m (parenthesis at inner) k) (sym is) (record {
        does = valued.does;
        operand = valued.operand;
        value = valued.value;
        before = before_node at (said_of_expression at.node element m e) own refl;
        behind = behind_node at (said_of_expression at.node element m e) own refl;
        when_true = valued.when_true;
        when_false = valued.when_false;
      })

  -- Operators: both sides are held, and then the operator's value is.
  module _ (at : Place) (operator : BinaryOperator) (left right : Tree) (m : FlowModel) (values : List SlotId) (e e' : Evaluation)
      (stands : Standing c e'.after) (are : AreValues c values)
      (one : Valued c values m left e) (other : Valued c (holding values (operand_of c.x left)) e.after right e')
      (t : Ty) (own : IsValueSlot c (slot_at c.x at).0 × (declared_at c.g (slot_at c.x at).0 ≡ t))
    where
      abbrev slot : SlotId
      slot = slot_at c.x at

      abbrev both_held : List SlotId
      both_held = holding (holding values (operand_of c.x left)) (operand_of c.x right)

      are_held : AreValues c both_held
      are_held = values_with c laws (holding values (operand_of c.x left)) (operand_of c.x right) e'.ty (values_with c laws values (operand_of c.x left) e.ty are one.operand) other.operand

      has_left : Has c (facts c.x e'.after both_held) (operand_of c.x left) e.ty
      has_left =
          has_operand c laws e'.after both_held (operand_of c.x left) e.ty stands are_held one.operand
          (held_still c laws (holding values (operand_of c.x left)) (operand_of c.x left) (operand_of c.x right) (held_with c laws values (operand_of c.x left)))

      has_right : Has c (facts c.x e'.after both_held) (operand_of c.x right) e'.ty
      has_right = has_operand c laws e'.after both_held (operand_of c.x right) e'.ty stands are_held other.operand (held_with c laws (holding values (operand_of c.x left)) (operand_of c.x right))

      pub operator_does : (step : Step) → operator_step operator.kind slot (operand_of c.x left) (operand_of c.x right) ≡ Some step → IsStepOf c.g step
          → (IsTrue e'.after.reachable → (f' : PointFacts) → Tells c (facts c.x e'.after (values ++ slot ∷ [])) f' → StepLeads c.rows c.g (facts c.x e'.after both_held) step f')
          → Does c (code_of c.x values (binary_expression at operator left right)) (facts c.x m values) (facts c.x e'.after (values ++ slot ∷ []))
      operator_does step is inside leads =
          let row_is : operator_row c.x at (known_behind c.x (place_of right)) values operator.kind (operand_of c.x left) (operand_of c.x right) ≡ leaf (site_of at) (facts c.x e'.after both_held) step =
          ap (λ k. operator_row c.x at k values operator.kind (operand_of c.x left) (operand_of c.x right)) other.behind
          ∙ ap (λ found. option_map_or (step_at c.x at e'.after both_held) found nothing) is in
          does_both c laws (code_of c.x values left) _ (facts c.x m values) (facts c.x e.after (holding values (operand_of c.x left))) (facts c.x e'.after (values ++ slot ∷ [])) one.does
          (does_both c laws (code_of c.x (holding values (operand_of c.x left)) right) _ (facts c.x e.after (holding values (operand_of c.x left))) (facts c.x e'.after both_held) (facts c.x e'.after (values ++ slot ∷ [])) other.does
          (subst (λ (code : Code). Does c code (facts c.x e'.after both_held) (facts c.x e'.after (values ++ slot ∷ []))) (sym row_is)
          (does_step c laws (site_of at) (facts c.x e'.after both_held) (facts c.x e'.after (values ++ slot ∷ [])) step (facts_inside c e'.after both_held stands are_held) inside leads)))

      -- the three operators
      module _ (reached : IsTrue e'.after.reachable) (f' : PointFacts) (tells : Tells c (facts c.x e'.after (values ++ slot ∷ [])) f') where
        pub adds_lead : t ≡ int → Operates c e.ty e'.ty t int → StepLeads c.rows c.g (facts c.x e'.after both_held) (step.Add slot (operand_of c.x left) (operand_of c.x right)) f'
        adds_lead is operates =
            let quiet = unshared c laws e'.after stands both_held are_held in
            add_leads c laws (facts c.x e'.after both_held) (facts c.x e'.after (values ++ slot ∷ [])) quiet reached f' tells slot (operand_of c.x left) (operand_of c.x right) e.ty e'.ty has_left has_right operates.one operates.other
            (gives_value c laws e'.after stands both_held values are_held (λ i here. fewer_held c laws (holding values (operand_of c.x left)) (operand_of c.x right) i (fewer_held c laws values (operand_of c.x left) i here)) reached slot int own.0 (own.1 ∙ is) quiet)

        pub compares_lead : t ≡ bool → Operates c e.ty e'.ty t bool → StepLeads c.rows c.g (facts c.x e'.after both_held) (step.Less slot (operand_of c.x left) (operand_of c.x right)) f'
        compares_lead is operates =
            let quiet = unshared c laws e'.after stands both_held are_held in
            compare_leads c laws (facts c.x e'.after both_held) (facts c.x e'.after (values ++ slot ∷ [])) quiet reached f' tells slot (operand_of c.x left) (operand_of c.x right) e.ty e'.ty has_left has_right operates.one operates.other
            (gives_value c laws e'.after stands both_held values are_held (λ i here. fewer_held c laws (holding values (operand_of c.x left)) (operand_of c.x right) i (fewer_held c laws values (operand_of c.x left) i here)) reached slot bool own.0 (own.1 ∙ is) quiet)

        pub differs_lead : t ≡ bool → StepLeads c.rows c.g (facts c.x e'.after both_held) (step.NotEqual slot (operand_of c.x left) (operand_of c.x right)) f'
        differs_lead is =
            let quiet = unshared c laws e'.after stands both_held are_held in
            differ_leads c laws (facts c.x e'.after both_held) (facts c.x e'.after (values ++ slot ∷ [])) quiet reached f' tells slot (operand_of c.x left) (operand_of c.x right) e.ty e'.ty has_left has_right
            (gives_value c laws e'.after stands both_held values are_held (λ i here. fewer_held c laws (holding values (operand_of c.x left)) (operand_of c.x right) i (fewer_held c laws values (operand_of c.x left) i here)) reached slot bool own.0 (own.1 ∙ is) quiet)

      -- the function has the slots that each of them names
      pub operands_inside : IsValueSlot c slot.0 → PointId → All (IsSlot c.g) (slots_named (slot ∷ []) (operand_of c.x left ∷ operand_of c.x right ∷ []))
      operands_inside value next = to_both_in c.g slot (operand_of c.x left) (operand_of c.x right) value.inside (operand_inside c laws (operand_of c.x left) e.ty one.operand) (operand_inside c laws (operand_of c.x right) e'.ty other.operand)
