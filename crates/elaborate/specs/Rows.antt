-- The code of a body: one row for each form, from what is said of its nodes and the code of its parts. Where an expression's code is done, its value stands in the slot of its node, or it is a constant.
use Rattle.std.specs.Prelude.{ℕ, List, [], if◌then◌else◌, Option, Some, None}
use Rattle.std.specs.Int.{cast_signed}
use Rattle.std.specs.Option.{option_map_or}
use mir.Syntax.{w64}
use Rattle.dart_tree.specs.Tree.{Tree, Trees, Part, no_more, more, absent, present, integer_literal, boolean_literal, null_literal, identifier, parenthesis, call, binary_expression, assignment, argument_list, argument, variable_list, variable, block, variable_statement, expression_statement, if_statement, while_statement}
use Rattle.dart_tree.specs.Places.{place_of}
use Rattle.dart_tree.specs.declared.names.Name.{Name}
use Rattle.dart_tree.specs.declared.operators.BinaryOperatorKind.{BinaryOperatorKind}
use Rattle.dart_tree.specs.declared.operators.BinaryOperatorKind.TheVariants as operator
use Rattle.dart_tree.specs.declared.places.Place.{Place}
use Rattle.flow_model.specs.Flow.{FlowModel, is_known}
use Rattle.flow_model.specs.declared.locals.LocalId.{LocalId}
use Rattle.judgement.specs.DeclaredNames.{local_of}
use Rattle.judgement.specs.Judgement.{is_null_literal}
use Rattle.judgement.specs.Literals.{integer_of}
use Rattle.core_ir.specs.declared.points.Operand.{Operand}
use Rattle.core_ir.specs.declared.points.Operand.TheVariants.{Slot, Constant}
use Rattle.core_ir.specs.declared.points.SlotId.{SlotId}
use Rattle.core_ir.specs.declared.points.Span.{Span}
use Rattle.core_ir.specs.declared.values.Value.TheVariants.{Null, Integer, Boolean}
use Rattle.core_emit.specs.Code.{Code, nothing, leaf, sequence, choice, loop}
use Rattle.core_emit.specs.declared.steps.Step.{Step}
use Rattle.core_emit.specs.declared.steps.Step.TheVariants as step
use Rattle.core_emit.specs.declared.steps.Test.{Test}
use Rattle.core_emit.specs.declared.steps.Test.TheVariants as test
use Rattle.elaborate.specs.Sources.{Sources, known_before, known_behind, named_at, local_meant, local_named, is_print, slot_at, slot_of_local, lexeme_of}
use Rattle.elaborate.specs.Known.{facts, holding}

-- where the node stands that a point is made from
abbrev pub site_of : Place → Option Span
site_of at = Some (record { start = at.span.start; end = at.span.end })

-- a step that is done where the node at a place stands
abbrev pub step_at : Sources → Place → FlowModel → (values : List SlotId) → Step → Code
step_at x at m values step = leaf (site_of at) (facts x m values) step

-- Operands.

-- the value of an integer literal, in two's complement
abbrev pub literal_value : Sources → (word : ℕ) → Operand
literal_value x word = Constant (Integer (cast_signed w64 (option_map_or (λ n. n) (integer_of (lexeme_of x word)) 0)))

-- where the value of an expression stands, once its code is done: a literal is a constant, and what has no value is null
abbrev pub operand_of : Sources → Tree → Operand
operand_of x (integer_literal at word) = literal_value x word
operand_of x (boolean_literal at value) = Constant (Boolean value)
operand_of x (null_literal at) = Constant Null
operand_of x (parenthesis at inner) = operand_of x inner
operand_of x (assignment at operator target value) = operand_of x value
operand_of x (call at callee type_arguments arguments) = Constant Null
operand_of x tree = Slot (slot_at x (place_of tree))

-- Expressions.

-- A name of a local: its value is held in the slot of the name.
abbrev pub name_row : Sources → Place → (values : List SlotId) → Option LocalId → Code
name_row x at values None = nothing
name_row x at values (Some var) = step_at x at (known_before x at) values (step.Store (slot_at x at) (Slot (slot_of_local x var)))

-- the step of an operator, so far `+`, `<` and `!=`
abbrev pub operator_step : BinaryOperatorKind → SlotId → (left right : Operand) → Option Step
operator_step operator.Add to left right = Some (step.Add to left right)
operator_step operator.Less to left right = Some (step.Less to left right)
operator_step operator.NotEqual to left right = Some (step.NotEqual to left right)
operator_step _ to left right = None

-- An operator, once both its sides are held: it stands where this is known.
abbrev pub operator_row : Sources → Place → FlowModel → (values : List SlotId) → BinaryOperatorKind → (left right : Operand) → Code
operator_row x at m values kind left right =
    option_map_or (step_at x at m (holding (holding values left) right)) (operator_step kind (slot_at x at) left right) nothing

-- An assignment, once its value is held: it is written to the local.
abbrev pub assignment_row : Sources → Place → FlowModel → (values : List SlotId) → Option LocalId → (value : Operand) → Code
assignment_row x at m values None value = nothing
assignment_row x at m values (Some var) value = step_at x at m (holding values value) (step.Store (slot_of_local x var) value)

-- A call of `print`, once its argument is held.
abbrev pub print_row : Sources → Place → FlowModel → (values : List SlotId) → Operand → Code
print_row x at m values value = step_at x at m (holding values value) (step.Output value)

abbrev mutual
  -- the code of an expression, where these values are held: the left side of an operator is done before the right one, and is held meanwhile
  pub code_of : Sources → (values : List SlotId) → Tree → Code
  code_of x values (identifier at word) = name_row x at values (local_meant (named_at x at))
  code_of x values (parenthesis at inner) = code_of x values inner
  code_of x values (binary_expression at operator left right) =
      sequence (code_of x values left) (sequence (code_of x (holding values (operand_of x left)) right) (operator_row x at (known_behind x (place_of right)) values operator.kind (operand_of x left) (operand_of x right)))
  code_of x values (assignment at operator target value) =
      sequence (code_of x values value) (assignment_row x at (known_behind x (place_of value)) values (local_meant (named_at x at)) (operand_of x value))
  code_of x values (call at callee type_arguments arguments) = if is_print (named_at x at) then print_code x at values arguments else nothing
  code_of x values _ = nothing

  -- that of a call of `print` with these arguments
  pub print_code : Sources → Place → (values : List SlotId) → Tree → Code
  print_code x at values (argument_list over arguments) = one_printed x at values arguments
  print_code x at values _ = nothing

  pub one_printed : Sources → Place → (values : List SlotId) → Trees → Code
  one_printed x at values (more first no_more) = printed x at values first
  one_printed x at values _ = nothing

  pub printed : Sources → Place → (values : List SlotId) → Tree → Code
  printed x at values (argument over name value) = sequence (code_of x values value) (print_row x at (known_behind x (place_of value)) values (operand_of x value))
  printed x at values _ = nothing

-- Conditions.

-- the local that a comparison of these two sides compares with the literal `null`
abbrev pub compared_local : Sources → Tree → Tree → Option LocalId
compared_local x left right =
    if is_null_literal right then local_named x left else (if is_null_literal left then local_named x right else None)

-- the test of a comparison of a local with `null`, if an operator is one
abbrev pub null_test : Sources → BinaryOperatorKind → Option LocalId → Option Test
null_test x operator.NotEqual (Some var) = Some (test.OnNotNull (slot_of_local x var))
null_test x operator.NotEqual None = None
null_test x _ compared = None

-- the test of a condition that is a comparison of a local with `null`, in parentheses too
abbrev pub test_of_null : Sources → Tree → Option Test
test_of_null x (parenthesis at inner) = test_of_null x inner
test_of_null x (binary_expression at operator left right) = null_test x operator.kind (compared_local x left right)
test_of_null x _ = None

-- A condition: its code, the test behind it, and the values that are held there. A comparison of a local with `null` is tested by itself; of any other the value is.
pub record Condition : Type 0 where
  pub code : Code
  pub test : Test
  pub values : List SlotId

abbrev pub condition_row : Sources → (values : List SlotId) → Tree → Option Test → Condition
condition_row x values tree (Some test) = record { code = nothing; test = test; values = values }
condition_row x values tree None = record { code = code_of x values tree; test = test.OnTruth (operand_of x tree); values = holding values (operand_of x tree) }

abbrev pub condition_of : Sources → (values : List SlotId) → Tree → Condition
condition_of x values tree = condition_row x values tree (test_of_null x tree)

-- A branch, or one that is left out.
abbrev pub if_row : Sources → (condition : Tree) → Condition → (then_code else_code : Code) → Code
if_row x condition c then_code else_code =
    sequence c.code (choice (site_of (place_of condition)) (facts x (known_behind x (place_of condition)) c.values) c.test then_code else_code)

-- A loop, at whose head the condition is judged.
abbrev pub while_row : Sources → Place → (condition : Tree) → Condition → (body : Code) → Code
while_row x at condition c body =
    loop (site_of at) (facts x (known_before x (place_of condition)) []) (facts x (known_behind x (place_of condition)) c.values) c.code c.test body

-- Declarations.

-- A variable without initializer: one that has a value afterwards has null.
abbrev pub declared_row : Sources → Place → Name → Code
declared_row x at name =
    step_at x at (known_before x at) []
    (if is_known (λ l. l.assigned) (known_behind x at) (local_of name) then step.Initialize (slot_of_local x (local_of name)) (Constant Null) else step.Declare (slot_of_local x (local_of name)))

-- A variable, once its initializer is held.
abbrev pub initialized_row : Sources → Place → Name → FlowModel → Operand → Code
initialized_row x at name m value = step_at x at m (holding [] value) (step.Initialize (slot_of_local x (local_of name)) value)

abbrev pub declared_code : Sources → Tree → Code
declared_code x (variable at name absent) = declared_row x at name
declared_code x (variable at name (present value)) = sequence (code_of x [] value) (initialized_row x at name (known_behind x (place_of value)) (operand_of x value))
declared_code x _ = nothing

-- variables that are declared together, one after another
abbrev pub all_declared : Sources → Trees → Code
all_declared x no_more = nothing
all_declared x (more first rest) = sequence (declared_code x first) (all_declared x rest)

abbrev pub list_code : Sources → Tree → Code
list_code x (variable_list at is_final written variables) = all_declared x variables
list_code x _ = nothing

-- Statements.

-- an expression that stands as a statement, or none
abbrev pub effect_code : Sources → Part → Code
effect_code x absent = nothing
effect_code x (present value) = code_of x [] value

abbrev mutual
  -- the code of a statement
  pub statement_code : Sources → Tree → Code
  statement_code x (variable_statement at variables) = list_code x variables
  statement_code x (expression_statement at value) = effect_code x value
  statement_code x (if_statement at condition then_branch else_branch) =
      if_row x condition (condition_of x [] condition) (statement_code x then_branch) (branch_code x else_branch)
  statement_code x (while_statement at condition body) = while_row x at condition (condition_of x [] condition) (statement_code x body)
  statement_code x (block at statements) = statements_code x statements
  statement_code x _ = nothing

  -- statements, one after another
  pub statements_code : Sources → Trees → Code
  statements_code x no_more = nothing
  statements_code x (more first rest) = sequence (statement_code x first) (statements_code x rest)

  -- a branch; nothing where it is left out
  pub branch_code : Sources → Part → Code
  branch_code x absent = nothing
  branch_code x (present tree) = statement_code x tree
