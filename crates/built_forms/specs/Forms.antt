-- The forms of bodies that are checked so far. What stands in no line here is another form, which isn't built.
use Rattle.std.specs.Prelude.{Bool, true, false, not, ◌&&◌, ◌||◌, List, None, is_some}
use Rattle.dart_tree.specs.Tree.{Tree, Trees, Part, no_more, more, absent, present, named_type, integer_literal, boolean_literal, null_literal, identifier, parenthesis, call, binary_expression, assignment, argument_list, argument, variable_list, variable, block, variable_statement, expression_statement, if_statement, while_statement, error_node}
use Rattle.dart_tree.specs.declared.operators.BinaryOperatorKind.{BinaryOperatorKind}
use Rattle.dart_tree.specs.declared.operators.BinaryOperatorKind.TheVariants.{Add, Less, NotEqual}
use Rattle.dart_types.specs.Same.{same_class}
use Rattle.dart_types.specs.declared.ids.TheConstants.{INT}
use Rattle.judgement.specs.declared.meaning.Meaning.{Meaning}
use Rattle.judgement.specs.declared.meaning.Meaning.TheVariants.{Nothing, Local, Print, Class, Other}
use Rattle.built_forms.specs.Meanings.{meaning_at}

-- What names may mean outside of the body.

-- nothing, so that the name is one of a local
abbrev pub is_free : Meaning → Bool
is_free Nothing = true
is_free (Local var) = false
is_free Print = false
is_free (Class class) = false
is_free Other = false

-- the function `print`
abbrev pub is_print : Meaning → Bool
is_print Print = true
is_print Nothing = false
is_print (Local var) = false
is_print (Class class) = false
is_print Other = false

-- the class of `int`, `int?` or `bool`
abbrev pub is_type : Meaning → (nullable : Bool) → Bool
is_type (Class class) nullable = not nullable || same_class class INT
is_type Nothing nullable = false
is_type (Local var) nullable = false
is_type Print nullable = false
is_type Other nullable = false

-- Expressions.

-- `+`, `<` and `!=`
abbrev pub is_operator : BinaryOperatorKind → Bool
is_operator Add = true
is_operator Less = true
is_operator NotEqual = true
is_operator _ = false

-- an expression that has a value
abbrev pub is_value : (outside : List Meaning) → Tree → Bool
is_value outside (identifier at word) = is_free (meaning_at outside word)
is_value outside (integer_literal at word) = true
is_value outside (boolean_literal at value) = true
is_value outside (null_literal at) = true
is_value outside (parenthesis at inner) = is_value outside inner
is_value outside (binary_expression at operator left right) = is_operator operator.kind && (is_value outside left && is_value outside right)
is_value outside _ = false

-- the name of a local
abbrev pub is_target : (outside : List Meaning) → Tree → Bool
is_target outside (identifier at word) = is_free (meaning_at outside word)
is_target outside _ = false

-- the name `print`
abbrev pub is_printer : (outside : List Meaning) → Tree → Bool
is_printer outside (identifier at word) = is_print (meaning_at outside word)
is_printer outside _ = false

-- an argument without a name
abbrev pub is_argument : (outside : List Meaning) → Tree → Bool
is_argument outside (argument at None value) = is_value outside value
is_argument outside _ = false

-- one argument
abbrev pub is_one_argument : (outside : List Meaning) → Trees → Bool
is_one_argument outside (more first no_more) = is_argument outside first
is_one_argument outside _ = false

-- one argument, with its parentheses
abbrev pub are_arguments : (outside : List Meaning) → Tree → Bool
are_arguments outside (argument_list at arguments) = is_one_argument outside arguments
are_arguments outside _ = false

-- it is left out
abbrev pub is_absent : Part → Bool
is_absent absent = true
is_absent (present tree) = false

-- an expression that stands as a statement: `x = e`, `print(e)` or a value
abbrev pub is_effect : (outside : List Meaning) → Tree → Bool
is_effect outside (assignment at operator target value) = not (is_some operator.compound) && (is_target outside target && is_value outside value)
is_effect outside (call at callee type_arguments arguments) = is_absent type_arguments && (is_printer outside callee && are_arguments outside arguments)
is_effect outside tree = is_value outside tree

-- Declarations of locals.

-- a type
abbrev pub is_written_type : (outside : List Meaning) → Tree → Bool
is_written_type outside (named_type at None name absent nullable) = is_type (meaning_at outside name.word) nullable
is_written_type outside _ = false

-- a type that is written
abbrev pub has_type : (outside : List Meaning) → Part → Bool
has_type outside absent = false
has_type outside (present tree) = is_written_type outside tree

-- an initializer, or none
abbrev pub may_initialize : (outside : List Meaning) → Part → Bool
may_initialize outside absent = true
may_initialize outside (present value) = is_value outside value

-- a variable
abbrev pub is_variable : (outside : List Meaning) → Tree → Bool
is_variable outside (variable at name initializer) = is_free (meaning_at outside name.word) && may_initialize outside initializer
is_variable outside _ = false

-- one variable
abbrev pub is_one_variable : (outside : List Meaning) → Trees → Bool
is_one_variable outside (more first no_more) = is_variable outside first
is_one_variable outside _ = false

-- one variable with its type
abbrev pub is_declaration : (outside : List Meaning) → Tree → Bool
is_declaration outside (variable_list at false written variables) = has_type outside written && is_one_variable outside variables
is_declaration outside _ = false

-- Statements.

-- an expression that stands as a statement
abbrev pub has_effect : (outside : List Meaning) → Part → Bool
has_effect outside absent = false
has_effect outside (present tree) = is_effect outside tree

-- the node derives nothing
abbrev pub is_error : Tree → Bool
is_error (error_node at) = true
is_error _ = false

abbrev mutual
  -- a statement
  pub is_statement : (outside : List Meaning) → Tree → Bool
  is_statement outside (block at statements) = are_statements outside statements
  is_statement outside (variable_statement at variables) = is_declaration outside variables
  is_statement outside (expression_statement at value) = has_effect outside value
  is_statement outside (if_statement at condition then_branch else_branch) =
      is_value outside condition && (is_block outside then_branch && may_be_block outside else_branch)
  is_statement outside (while_statement at condition body) = is_value outside condition && is_block outside body
  is_statement outside _ = false

  -- a block, as a branch or a body
  pub is_block : (outside : List Meaning) → Tree → Bool
  is_block outside (block at statements) = are_statements outside statements
  is_block outside _ = false

  -- a block, or none
  pub may_be_block : (outside : List Meaning) → Part → Bool
  may_be_block outside absent = true
  may_be_block outside (present tree) = is_block outside tree

  -- statements, and what derives nothing
  pub are_statements : (outside : List Meaning) → Trees → Bool
  are_statements outside no_more = true
  are_statements outside (more first rest) = (is_error first || is_statement outside first) && are_statements outside rest
