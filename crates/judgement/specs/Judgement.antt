-- The judgement of trees. The forms that aren't listed aren't judged yet: they say nothing.
use Rattle.std.specs.Prelude.{Bool, true, false, [], Option, Some, None, if◌then◌else◌}
use Rattle.dart_tree.specs.Tree.{Tree, Trees, Part, no_more, more, absent, present, named_type, integer_literal, boolean_literal, null_literal, identifier, parenthesis, call, binary_expression, assignment, argument_list, argument, variable_list, variable, block, variable_statement, expression_statement, if_statement, while_statement}
use Rattle.dart_tree.specs.Places.{place_of}
use Rattle.dart_types.specs.Ty.{Ty, invalid, null}
use Rattle.dart_types.specs.Normal.{nullable_of}
use Rattle.flow_model.specs.Flow.{FlowModel}
use Rattle.flow_model.specs.declared.locals.LocalId.{LocalId}
use Rattle.judgement.specs.declared.meaning.Meaning.{Meaning}
use Rattle.judgement.specs.declared.meaning.Meaning.TheVariants.{Nothing, Local, Print, Class, Other}
use Rattle.judgement.specs.Surroundings.{Surroundings, meaning_of}
use Rattle.judgement.specs.DeclaredNames.{local_of, names_declared, names_in}
use Rattle.judgement.specs.Given.{Evaluation, Outcome, of_type, expression_row, just, value_then, and_then, statement_row}
use Rattle.judgement.specs.ExpressionRows.{class_type, bool, integer_row, boolean_row, name_row, assignment_row, operator_row, print_row}
use Rattle.judgement.specs.StatementRows.{scope_row, declare_row, initialize_row, as_condition, if_row, loop_head, while_row}
use Rattle.judgement.specs.Written.{named_by, written_in}

-- Types.

-- a type with `?` behind it, or without
abbrev pub marked : Bool → Ty → Ty
marked nullable ty = if nullable then nullable_of ty else ty

-- the type that a name is, with `?` behind it or without
abbrev pub type_row : Meaning → (nullable : Bool) → Ty
type_row (Class class) nullable = marked nullable (class_type class)
type_row Nothing nullable = invalid
type_row (Local var) nullable = invalid
type_row Print nullable = invalid
type_row Other nullable = invalid

-- the type that a written type is
abbrev pub type_of : Surroundings → Tree → Ty
type_of s (named_type at None name absent nullable) = type_row (meaning_of s name.word) nullable
type_of s _ = invalid

-- the type that is written
abbrev pub written_type : Surroundings → Part → Ty
written_type s absent = invalid
written_type s (present tree) = type_of s tree

-- Expressions.

-- whether an expression is the literal `null`, which in parentheses it isn't
abbrev pub is_null_literal : Tree → Bool
is_null_literal (null_literal at) = true
is_null_literal _ = false

-- the local that a name means, if it means one
abbrev pub as_local : Meaning → Option LocalId
as_local (Local var) = Some var
as_local Nothing = None
as_local Print = None
as_local (Class class) = None
as_local Other = None

-- the local that a comparison of these two sides compares with the literal `null`
abbrev pub compared_local : Surroundings → Tree → Tree → Option LocalId
compared_local s left right =
    if is_null_literal right then as_local (named_by s left) else (if is_null_literal left then as_local (named_by s right) else None)

-- what a node names, or writes
abbrev pub element_of : Surroundings → Tree → Option Meaning
element_of s (identifier at word) = Some (meaning_of s word)
element_of s (parenthesis at inner) = element_of s inner
element_of s (assignment at operator target value) = Some (named_by s target)
element_of s (call at callee type_arguments arguments) = Some (named_by s callee)
element_of s _ = None

-- what an expression gives, from what its form gives
abbrev pub judged : Surroundings → Tree → FlowModel → Evaluation → Evaluation
judged s tree m row = expression_row (place_of tree) (element_of s tree) m row

-- what a condition gives that is judged from this model, from what its form gives
abbrev pub condition_at : Surroundings → Tree → FlowModel → (FlowModel → Evaluation) → Evaluation
condition_at s condition m form = as_condition s.table (place_of condition) (judged s condition m (form m))

abbrev mutual
  -- what an expression gives by its form, where a type is wanted of it or none: an operator's left side is judged before its right one, and parentheses hand on what the expression in them gives
  pub form_row : Surroundings → Tree → Option Ty → FlowModel → Evaluation
  form_row s (identifier at word) wanted m = name_row (meaning_of s word) at m
  form_row s (integer_literal at word) wanted m = integer_row s at word m
  form_row s (boolean_literal at value) wanted m = boolean_row value m
  form_row s (null_literal at) wanted m = of_type null m
  form_row s (parenthesis at inner) wanted m = judged s inner m (form_row s inner wanted m)
  form_row s (binary_expression at operator left right) wanted m =
      operator_row s.table operator (place_of right) (compared_local s left right) (judged s left m (form_row s left None m)) (λ wanted m. judged s right m (form_row s right wanted m))
  form_row s (assignment at operator target value) wanted m =
      assignment_row s.table (named_by s target) (place_of target) (place_of value) (λ wanted m. judged s value m (form_row s value wanted m)) m
  form_row s (call at callee type_arguments arguments) wanted m = called s (named_by s callee) arguments m
  form_row s _ wanted m = of_type invalid m

  -- what a call gives, from what it calls
  pub called : Surroundings → Meaning → Tree → FlowModel → Evaluation
  called s Print (argument_list at arguments) m = printed s arguments m
  called s _ _ m = of_type invalid m

  -- what a call of `print` gives with these arguments
  pub printed : Surroundings → Trees → FlowModel → Evaluation
  printed s (more first no_more) m = printed_value s first m
  printed s _ m = of_type invalid m

  pub printed_value : Surroundings → Tree → FlowModel → Evaluation
  printed_value s (argument at name value) m = print_row s.table (place_of value) (judged s value m (form_row s value None m))
  printed_value s _ m = of_type invalid m

  -- what a variable gives that is declared with the type
  pub declare : Surroundings → Ty → Tree → FlowModel → Outcome
  declare s ty (variable at name absent) m = statement_row at (Some (Local (local_of name))) m (declare_row s name ty m)
  declare s ty (variable at name (present value)) m =
      statement_row at (Some (Local (local_of name))) m (initialize_row s name ty (place_of value) (judged s value m (form_row s value (Some ty) m)))
  declare s ty _ m = just m

  -- variables that are declared together, one after another
  pub declare_all : Surroundings → Ty → Trees → FlowModel → Outcome
  declare_all s ty no_more m = just m
  declare_all s ty (more first rest) m = and_then (declare s ty first m) (declare_all s ty rest)

  -- what a list of variables gives
  pub declare_list : Surroundings → Tree → FlowModel → Outcome
  declare_list s (variable_list at is_final written variables) m = declare_all s (written_type s written) variables m
  declare_list s _ m = just m

  -- what an expression gives that stands as a statement, or nothing
  pub evaluate_part : Surroundings → Part → FlowModel → Outcome
  evaluate_part s absent m = just m
  evaluate_part s (present value) m = value_then (judged s value m (form_row s value None m)) just

  -- what a statement gives
  pub run : Surroundings → Tree → FlowModel → Outcome
  run s (variable_statement at variables) m = statement_row at None m (declare_list s variables m)
  run s (expression_statement at value) m = statement_row at None m (evaluate_part s value m)
  run s (if_statement at condition then_branch else_branch) m =
      statement_row at None m (if_row (condition_at s condition m (λ m. form_row s condition (Some bool) m)) (scope_row s (names_declared then_branch) (λ inner. run inner then_branch)) (run_branch s else_branch))
  run s (while_statement at condition body) m =
      statement_row at None m (while_row at.node (condition_at s condition (loop_head m (written_in s (while_statement at condition body)) []) (λ m. form_row s condition (Some bool) m)) (scope_row s (names_declared body) (λ inner. run inner body)))
  run s (block at statements) m = statement_row at None m (scope_row s (names_in statements) (λ inner. run_all inner statements) m)
  run s _ m = just m

  -- statements, one after another
  pub run_all : Surroundings → Trees → FlowModel → Outcome
  run_all s no_more m = just m
  run_all s (more first rest) m = and_then (run s first m) (run_all s rest)

  -- a branch, which is a scope; nothing where it is left out
  pub run_branch : Surroundings → Part → FlowModel → Outcome
  run_branch s absent m = just m
  run_branch s (present tree) m = scope_row s (names_declared tree) (λ inner. run inner tree) m

-- what an expression gives, where a type is wanted of it or none
abbrev pub evaluate : Surroundings → Tree → Option Ty → FlowModel → Evaluation
evaluate s tree wanted m = judged s tree m (form_row s tree wanted m)

-- what a condition gives
abbrev pub condition_of : Surroundings → Tree → FlowModel → Evaluation
condition_of s condition m = condition_at s condition m (λ m. form_row s condition (Some bool) m)
