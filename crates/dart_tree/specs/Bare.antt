-- What of a tree does not depend on where it stands.
use Rattle.std.specs.Prelude.{ℕ, Option, Some, None}
use Rattle.dart_tree.specs.Tree.{Tree, Trees, Part, no_more, more, absent, present, void_type, named_type, function_type, type_argument_list, type_parameter, parameter_type, integer_literal, string_literal, boolean_literal, null_literal, this_expression, super_expression, identifier, parenthesis, new_expression, list_literal, set_or_map_literal, function_expression, generic_identifier, property_access, index_expression, null_check, call, unary_expression, postfix_expression, binary_expression, type_test, type_cast, conditional, assignment, throw_expression, cascade, cascaded_name, cascaded_index, simple_string, interpolated_string, string_text, string_interpolation, map_entry, argument_list, argument, annotation, parameter_list, parameter, expression_body, empty_body, native_body, getter, setter, plain_function, variable_list, variable, block, variable_statement, function_statement, expression_statement, if_statement, while_statement, do_statement, for_statement, for_in_statement, for_in_assignment, switch_statement, switch_case, try_statement, catch_clause, return_statement, break_statement, continue_statement, rethrow_statement, labeled_statement, constructor_declaration, factory_declaration, method_declaration, field_declaration, operator_declaration, field_initializer, super_initializer, redirection, class_declaration, mixin_declaration, type_alias, function_declaration, variable_declaration, library_directive, import_directive, export_directive, part_directive, part_of_directive, part_of_library_directive, show_combinator, hide_combinator, listed_name, error_node, unit}
use Rattle.dart_tree.specs.declared.names.ConstructorName.{ConstructorName}
use Rattle.dart_tree.specs.declared.names.Identifier.{Identifier}
use Rattle.dart_tree.specs.declared.names.Name.{Name}
use Rattle.dart_tree.specs.declared.operators.AssignmentOperator.{AssignmentOperator}
use Rattle.dart_tree.specs.declared.operators.BinaryOperator.{BinaryOperator}
use Rattle.dart_tree.specs.declared.operators.OperatorName.{OperatorName}
use Rattle.dart_tree.specs.declared.operators.PostfixOperator.{PostfixOperator}
use Rattle.dart_tree.specs.declared.operators.UnaryOperator.{UnaryOperator}
use Rattle.dart_tree.specs.declared.places.Place.{Place}
use Rattle.dart_tree.specs.declared.places.Span.{Span}

-- the range of nothing
abbrev pub no_span : Span
no_span = record { start = 0; end = 0 }

-- the place of what stands nowhere
abbrev pub no_place : Place
no_place = record { node = record { 0 = 0 }; span = no_span }

-- an identifier without its range, its word as another number
abbrev pub bare_identifier : (ℕ → ℕ) → Identifier → Identifier
bare_identifier word_of x = record { span = no_span; word = word_of x.word }

-- so of one that may be left out
abbrev pub bare_option : (ℕ → ℕ) → Option Identifier → Option Identifier
bare_option word_of None = None
bare_option word_of (Some x) = Some (bare_identifier word_of x)

-- of a name
abbrev pub bare_name : (ℕ → ℕ) → Name → Name
bare_name word_of x = record { at = no_place; word = word_of x.word }

-- of a constructor's name
abbrev pub bare_constructor_name : (ℕ → ℕ) → ConstructorName → ConstructorName
bare_constructor_name word_of x = record { at = no_place; class = word_of x.class; name = bare_option word_of x.name }

-- and operators without their ranges
abbrev pub bare_operator_name : OperatorName → OperatorName
bare_operator_name x = record x { at = no_place }

abbrev pub bare_binary : BinaryOperator → BinaryOperator
bare_binary x = record x { span = no_span }

abbrev pub bare_unary : UnaryOperator → UnaryOperator
bare_unary x = record x { span = no_span }

abbrev pub bare_postfix : PostfixOperator → PostfixOperator
bare_postfix x = record x { span = no_span }

abbrev pub bare_assignment : AssignmentOperator → AssignmentOperator
bare_assignment x = record x { span = no_span }

abbrev mutual
  -- the same tree with ranges and numbers aside, and each word as another number: trees of two texts are compared by the lexemes of their words
  pub bare_with : (ℕ → ℕ) → Tree → Tree
  bare_with w (void_type at) = void_type no_place
  bare_with w (named_type at prefix name arguments nullable) = named_type no_place (bare_option w prefix) (bare_identifier w name) (part_bare_with w arguments) nullable
  bare_with w (function_type at result type_parameters parameters optional nullable) = function_type no_place (part_bare_with w result) (all_bare_with w type_parameters) (all_bare_with w parameters) (all_bare_with w optional) nullable
  bare_with w (type_argument_list at types) = type_argument_list no_place (all_bare_with w types)
  bare_with w (type_parameter at name bound) = type_parameter no_place (bare_name w name) (part_bare_with w bound)
  bare_with w (parameter_type at written name) = parameter_type no_place (bare_with w written) (bare_option w name)
  bare_with w (integer_literal at word) = integer_literal no_place (w word)
  bare_with w (string_literal at strings) = string_literal no_place (all_bare_with w strings)
  bare_with w (boolean_literal at value) = boolean_literal no_place value
  bare_with w (null_literal at) = null_literal no_place
  bare_with w (this_expression at) = this_expression no_place
  bare_with w (super_expression at) = super_expression no_place
  bare_with w (identifier at word) = identifier no_place (w word)
  bare_with w (parenthesis at inner) = parenthesis no_place (bare_with w inner)
  bare_with w (new_expression at written name arguments) = new_expression no_place (bare_with w written) (bare_option w name) (bare_with w arguments)
  bare_with w (list_literal at type_arguments elements) = list_literal no_place (part_bare_with w type_arguments) (all_bare_with w elements)
  bare_with w (set_or_map_literal at type_arguments entries) = set_or_map_literal no_place (part_bare_with w type_arguments) (all_bare_with w entries)
  bare_with w (function_expression at parameters body) = function_expression no_place (bare_with w parameters) (bare_with w body)
  bare_with w (generic_identifier at name type_arguments) = generic_identifier no_place (bare_identifier w name) (bare_with w type_arguments)
  bare_with w (property_access at receiver null_aware name) = property_access no_place (bare_with w receiver) null_aware (bare_identifier w name)
  bare_with w (index_expression at receiver null_aware bracket index) = index_expression no_place (bare_with w receiver) null_aware no_span (bare_with w index)
  bare_with w (null_check at operand) = null_check no_place (bare_with w operand)
  bare_with w (call at callee type_arguments arguments) = call no_place (bare_with w callee) (part_bare_with w type_arguments) (bare_with w arguments)
  bare_with w (unary_expression at operator operand) = unary_expression no_place (bare_unary operator) (bare_with w operand)
  bare_with w (postfix_expression at operator operand) = postfix_expression no_place (bare_postfix operator) (bare_with w operand)
  bare_with w (binary_expression at operator left right) = binary_expression no_place (bare_binary operator) (bare_with w left) (bare_with w right)
  bare_with w (type_test at operand negated written) = type_test no_place (bare_with w operand) negated (bare_with w written)
  bare_with w (type_cast at operand written) = type_cast no_place (bare_with w operand) (bare_with w written)
  bare_with w (conditional at condition then_value else_value) = conditional no_place (bare_with w condition) (bare_with w then_value) (bare_with w else_value)
  bare_with w (assignment at operator target value) = assignment no_place (bare_assignment operator) (bare_with w target) (bare_with w value)
  bare_with w (throw_expression at value) = throw_expression no_place (bare_with w value)
  bare_with w (cascade at receiver null_aware section) = cascade no_place (bare_with w receiver) null_aware (bare_with w section)
  bare_with w (cascaded_name at name) = cascaded_name no_place (bare_identifier w name)
  bare_with w (cascaded_index at bracket index) = cascaded_index no_place no_span (bare_with w index)
  bare_with w (simple_string at kind word) = simple_string no_place kind (w word)
  bare_with w (interpolated_string at elements) = interpolated_string no_place (all_bare_with w elements)
  bare_with w (string_text at kind word) = string_text no_place kind (w word)
  bare_with w (string_interpolation at value) = string_interpolation no_place (bare_with w value)
  bare_with w (map_entry at key value) = map_entry no_place (bare_with w key) (part_bare_with w value)
  bare_with w (argument_list at arguments) = argument_list no_place (all_bare_with w arguments)
  bare_with w (argument at name value) = argument no_place (bare_option w name) (bare_with w value)
  bare_with w (annotation at name) = annotation no_place (bare_identifier w name)
  bare_with w (parameter_list at parameters) = parameter_list no_place (all_bare_with w parameters)
  bare_with w (parameter at metadata kind is_required is_final written is_field name default_value) = parameter no_place (all_bare_with w metadata) kind is_required is_final (part_bare_with w written) is_field (bare_name w name) (part_bare_with w default_value)
  bare_with w (expression_body at value) = expression_body no_place (bare_with w value)
  bare_with w (empty_body at) = empty_body no_place
  bare_with w (native_body at) = native_body no_place
  bare_with w (getter at result name body) = getter no_place (part_bare_with w result) (bare_name w name) (bare_with w body)
  bare_with w (setter at result name parameters body) = setter no_place (part_bare_with w result) (bare_name w name) (bare_with w parameters) (bare_with w body)
  bare_with w (plain_function at result name type_parameters parameters body) = plain_function no_place (part_bare_with w result) (bare_name w name) (all_bare_with w type_parameters) (bare_with w parameters) (bare_with w body)
  bare_with w (variable_list at is_final written variables) = variable_list no_place is_final (part_bare_with w written) (all_bare_with w variables)
  bare_with w (variable at name initializer) = variable no_place (bare_name w name) (part_bare_with w initializer)
  bare_with w (block at statements) = block no_place (all_bare_with w statements)
  bare_with w (variable_statement at variables) = variable_statement no_place (bare_with w variables)
  bare_with w (function_statement at function) = function_statement no_place (bare_with w function)
  bare_with w (expression_statement at value) = expression_statement no_place (part_bare_with w value)
  bare_with w (if_statement at condition then_branch else_branch) = if_statement no_place (bare_with w condition) (bare_with w then_branch) (part_bare_with w else_branch)
  bare_with w (while_statement at condition body) = while_statement no_place (bare_with w condition) (bare_with w body)
  bare_with w (do_statement at body condition) = do_statement no_place (bare_with w body) (bare_with w condition)
  bare_with w (for_statement at initializer condition updates body) = for_statement no_place (part_bare_with w initializer) (part_bare_with w condition) (all_bare_with w updates) (bare_with w body)
  bare_with w (for_in_statement at is_final written name iterable body) = for_in_statement no_place is_final (part_bare_with w written) (bare_name w name) (bare_with w iterable) (bare_with w body)
  bare_with w (for_in_assignment at name iterable body) = for_in_assignment no_place (bare_name w name) (bare_with w iterable) (bare_with w body)
  bare_with w (switch_statement at value cases) = switch_statement no_place (bare_with w value) (all_bare_with w cases)
  bare_with w (switch_case at labels is_default statements) = switch_case no_place (all_bare_with w labels) is_default (all_bare_with w statements)
  bare_with w (try_statement at body handlers finally_block) = try_statement no_place (bare_with w body) (all_bare_with w handlers) (part_bare_with w finally_block)
  bare_with w (catch_clause at written exception stack_trace body) = catch_clause no_place (part_bare_with w written) (part_bare_with w exception) (part_bare_with w stack_trace) (bare_with w body)
  bare_with w (return_statement at value) = return_statement no_place (part_bare_with w value)
  bare_with w (break_statement at label) = break_statement no_place (bare_option w label)
  bare_with w (continue_statement at label) = continue_statement no_place (bare_option w label)
  bare_with w (rethrow_statement at) = rethrow_statement no_place
  bare_with w (labeled_statement at label body) = labeled_statement no_place (bare_name w label) (bare_with w body)
  bare_with w (constructor_declaration at metadata name parameters initializers body) = constructor_declaration no_place (all_bare_with w metadata) (bare_constructor_name w name) (bare_with w parameters) (all_bare_with w initializers) (bare_with w body)
  bare_with w (factory_declaration at metadata name parameters body) = factory_declaration no_place (all_bare_with w metadata) (bare_constructor_name w name) (bare_with w parameters) (bare_with w body)
  bare_with w (method_declaration at metadata is_static function) = method_declaration no_place (all_bare_with w metadata) is_static (bare_with w function)
  bare_with w (field_declaration at metadata is_static variables) = field_declaration no_place (all_bare_with w metadata) is_static (bare_with w variables)
  bare_with w (operator_declaration at metadata result name parameters body) = operator_declaration no_place (all_bare_with w metadata) (part_bare_with w result) (bare_operator_name name) (bare_with w parameters) (bare_with w body)
  bare_with w (field_initializer at name value) = field_initializer no_place (bare_identifier w name) (bare_with w value)
  bare_with w (super_initializer at name arguments) = super_initializer no_place (bare_option w name) (bare_with w arguments)
  bare_with w (redirection at name arguments) = redirection no_place (bare_option w name) (bare_with w arguments)
  bare_with w (class_declaration at metadata is_abstract name type_parameters superclass mixins interfaces members) = class_declaration no_place (all_bare_with w metadata) is_abstract (bare_name w name) (all_bare_with w type_parameters) (part_bare_with w superclass) (all_bare_with w mixins) (all_bare_with w interfaces) (all_bare_with w members)
  bare_with w (mixin_declaration at metadata name type_parameters constraints interfaces members) = mixin_declaration no_place (all_bare_with w metadata) (bare_name w name) (all_bare_with w type_parameters) (all_bare_with w constraints) (all_bare_with w interfaces) (all_bare_with w members)
  bare_with w (type_alias at metadata name written) = type_alias no_place (all_bare_with w metadata) (bare_name w name) (bare_with w written)
  bare_with w (function_declaration at metadata function) = function_declaration no_place (all_bare_with w metadata) (bare_with w function)
  bare_with w (variable_declaration at metadata variables) = variable_declaration no_place (all_bare_with w metadata) (bare_with w variables)
  bare_with w (library_directive at names) = library_directive no_place (all_bare_with w names)
  bare_with w (import_directive at uri prefix combinators) = import_directive no_place (bare_with w uri) (part_bare_with w prefix) (all_bare_with w combinators)
  bare_with w (export_directive at uri combinators) = export_directive no_place (bare_with w uri) (all_bare_with w combinators)
  bare_with w (part_directive at uri) = part_directive no_place (bare_with w uri)
  bare_with w (part_of_directive at uri) = part_of_directive no_place (bare_with w uri)
  bare_with w (part_of_library_directive at names) = part_of_library_directive no_place (all_bare_with w names)
  bare_with w (show_combinator at names) = show_combinator no_place (all_bare_with w names)
  bare_with w (hide_combinator at names) = hide_combinator no_place (all_bare_with w names)
  bare_with w (listed_name at word) = listed_name no_place (w word)
  bare_with w (error_node at) = error_node no_place
  bare_with w (unit at items) = unit no_place (all_bare_with w items)

  -- so of the trees of a list
  pub all_bare_with : (ℕ → ℕ) → Trees → Trees
  all_bare_with w no_more = no_more
  all_bare_with w (more first rest) = more (bare_with w first) (all_bare_with w rest)

  -- and of a part
  pub part_bare_with : (ℕ → ℕ) → Part → Part
  part_bare_with w absent = absent
  part_bare_with w (present tree) = present (bare_with w tree)

-- the same tree with ranges and numbers aside
abbrev pub bare_of : Tree → Tree
bare_of t = bare_with (λ word. word) t
