-- Code has no more than two points for each node of its tree.
use Rattle.std.proofs.Common.{ℕ, ◌+◌, ◌*◌, ◌≤◌, Bool, true, false, List, [], Option, Some, None, if◌then◌else◌, arith}
use Rattle.std.specs.Option.{option_map_or}
use Rattle.dart_tree.specs.Tree.{Tree, Trees, Part, no_more, more, absent, present, identifier, parenthesis, call, binary_expression, assignment, argument_list, argument, variable_list, variable, block, variable_statement, expression_statement, if_statement, while_statement}
use Rattle.dart_tree.specs.Numbers.{nodes_in, nodes_in_all, nodes_in_part}
use Rattle.dart_tree.specs.Places.{place_of}
use Rattle.dart_tree.specs.declared.places.Place.{Place}
use Rattle.flow_model.specs.Flow.{FlowModel}
use Rattle.flow_model.specs.declared.locals.LocalId.{LocalId}
use Rattle.core_ir.specs.declared.points.Operand.{Operand}
use Rattle.core_ir.specs.declared.points.SlotId.{SlotId}
use Rattle.core_emit.specs.Code.{Code, nothing}
use Rattle.core_emit.specs.declared.steps.Step.{Step}
use Rattle.core_emit.specs.declared.steps.Test.{Test}
use Rattle.core_emit.specs.Emitted.{size_of}
use Rattle.elaborate.specs.Sources.{Sources, is_print, known_behind, local_meant, named_at, slot_at}
use Rattle.elaborate.specs.Known.{holding}
use Rattle.elaborate.specs.Elaborated.{function_code}
use Rattle.elaborate.specs.Rows.{all_declared, assignment_row, branch_code, code_of, condition_of, condition_row, declared_code, effect_code, list_code, name_row, one_printed, operand_of, operator_step, print_code, printed, statement_code, statements_code, step_at, test_of_null}

-- what has no code
none : (n : ℕ) → size_of nothing ≤ n
none n = omega arith

-- code that there may be
either : (b : Bool) (code : Code) (n : ℕ) → size_of code ≤ n → size_of (if b then code else nothing) ≤ n
either true code n few = few
either false code n few = none n

-- a name, an operator and an assignment have a point, or none
of_name : (x : Sources) (at : Place) (values : List SlotId) (meant : Option LocalId) → size_of (name_row x at values meant) ≤ 1
of_name x at values None = omega arith
of_name x at values (Some var) = omega arith

of_step : (x : Sources) (at : Place) (m : FlowModel) (values : List SlotId) (step : Option Step) → size_of (option_map_or (step_at x at m values) step nothing) ≤ 1
of_step x at m values None = omega arith
of_step x at m values (Some step) = omega arith

of_write : (x : Sources) (at : Place) (m : FlowModel) (values : List SlotId) (meant : Option LocalId) (value : Operand) → size_of (assignment_row x at m values meant value) ≤ 1
of_write x at m values None value = omega arith
of_write x at m values (Some var) value = omega arith

mutual
  -- the code of an expression
  pub size_of-code_of : (x : Sources) (values : List SlotId) (tree : Tree) → size_of (code_of x values tree) ≤ 2 * nodes_in tree
  size_of-code_of x values (identifier at word) = omega (arith, of_name x at values (local_meant (named_at x at)))
  size_of-code_of x values (parenthesis at inner) = omega (arith, size_of-code_of x values inner)
  size_of-code_of x values (binary_expression at operator left right) =
      let held = holding values (operand_of x left) in
      omega (arith, size_of-code_of x values left, size_of-code_of x held right, of_step x at (known_behind x (place_of right)) (holding held (operand_of x right)) (operator_step operator.kind (slot_at x at) (operand_of x left) (operand_of x right)))
  size_of-code_of x values (assignment at operator target value) =
      omega (arith, size_of-code_of x values value, of_write x at (known_behind x (place_of value)) values (local_meant (named_at x at)) (operand_of x value))
  size_of-code_of x values (call at callee type_arguments arguments) =
      either (is_print (named_at x at)) (print_code x at values arguments) (2 * nodes_in (call at callee type_arguments arguments)) (omega (arith, size_of-print_code x at values arguments))
  size_of-code_of x values tree = none (2 * nodes_in tree)

  -- that of a call of `print` with these arguments
  size_of-print_code : (x : Sources) (at : Place) (values : List SlotId) (tree : Tree) → size_of (print_code x at values tree) ≤ 2 * nodes_in tree
  size_of-print_code x at values (argument_list over arguments) = omega (arith, size_of-one_printed x at values arguments)
  size_of-print_code x at values tree = none (2 * nodes_in tree)

  size_of-one_printed : (x : Sources) (at : Place) (values : List SlotId) (trees : Trees) → size_of (one_printed x at values trees) ≤ 2 * nodes_in_all trees
  size_of-one_printed x at values no_more = none 0
  size_of-one_printed x at values (more first no_more) = omega (arith, size_of-printed x at values first)
  size_of-one_printed x at values (more first (more second rest)) = none (2 * nodes_in_all (more first (more second rest)))

  size_of-printed : (x : Sources) (at : Place) (values : List SlotId) (tree : Tree) → size_of (printed x at values tree) ≤ 2 * nodes_in tree
  size_of-printed x at values (argument over name value) = omega (arith, size_of-code_of x values value)
  size_of-printed x at values tree = none (2 * nodes_in tree)

-- that of a condition, before its test
of_condition : (x : Sources) (tree : Tree) (test : Option Test) → size_of (condition_row x [] tree test).code ≤ 2 * nodes_in tree
of_condition x tree (Some test) = none (2 * nodes_in tree)
of_condition x tree None = size_of-code_of x [] tree

pub size_of-condition_of : (x : Sources) (tree : Tree) → size_of (condition_of x [] tree).code ≤ 2 * nodes_in tree
size_of-condition_of x tree = of_condition x tree (test_of_null x tree)

-- that of declarations
of_variable : (x : Sources) (tree : Tree) → size_of (declared_code x tree) ≤ 2 * nodes_in tree
of_variable x (variable at name absent) = omega arith
of_variable x (variable at name (present value)) = omega (arith, size_of-code_of x [] value)
of_variable x tree = none (2 * nodes_in tree)

of_variables : (x : Sources) (trees : Trees) → size_of (all_declared x trees) ≤ 2 * nodes_in_all trees
of_variables x no_more = none 0
of_variables x (more first rest) = omega (arith, of_variable x first, of_variables x rest)

of_list : (x : Sources) (tree : Tree) → size_of (list_code x tree) ≤ 2 * nodes_in tree
of_list x (variable_list at is_final written variables) = omega (arith, of_variables x variables)
of_list x tree = none (2 * nodes_in tree)

of_effect : (x : Sources) (part : Part) → size_of (effect_code x part) ≤ 2 * nodes_in_part part
of_effect x absent = none 0
of_effect x (present value) = size_of-code_of x [] value

mutual
  -- that of a statement
  pub size_of-statement_code : (x : Sources) (tree : Tree) → size_of (statement_code x tree) ≤ 2 * nodes_in tree
  size_of-statement_code x (variable_statement at variables) = omega (arith, of_list x variables)
  size_of-statement_code x (expression_statement at value) = omega (arith, of_effect x value)
  size_of-statement_code x (if_statement at condition then_branch else_branch) =
      omega (arith, size_of-condition_of x condition, size_of-statement_code x then_branch, size_of-branch_code x else_branch)
  size_of-statement_code x (while_statement at condition body) = omega (arith, size_of-condition_of x condition, size_of-statement_code x body)
  size_of-statement_code x (block at statements) = omega (arith, size_of-statements_code x statements)
  size_of-statement_code x tree = none (2 * nodes_in tree)

  -- those of statements, one after another
  pub size_of-statements_code : (x : Sources) (trees : Trees) → size_of (statements_code x trees) ≤ 2 * nodes_in_all trees
  size_of-statements_code x no_more = none 0
  size_of-statements_code x (more first rest) = omega (arith, size_of-statement_code x first, size_of-statements_code x rest)

  -- that of a branch
  pub size_of-branch_code : (x : Sources) (part : Part) → size_of (branch_code x part) ≤ 2 * nodes_in_part part
  size_of-branch_code x absent = none 0
  size_of-branch_code x (present tree) = size_of-statement_code x tree

-- that of a function
pub size_of-function_code : (x : Sources) (body : Tree) → size_of (function_code x body) ≤ 2 * nodes_in body + 1
size_of-function_code x body = omega (arith, size_of-statement_code x body)
