-- The errors of a tree: where the nodes in it stand that derive nothing, in reading order.
use Rattle.std.specs.Prelude.{List, [], ◌∷◌, ◌++◌}
use Rattle.dart_tree.specs.Tree.{Tree, Trees, Part, no_more, more, absent, present, void_type, named_type, function_type, type_argument_list, type_parameter, parameter_type, integer_literal, string_literal, boolean_literal, null_literal, this_expression, super_expression, identifier, parenthesis, new_expression, list_literal, set_or_map_literal, function_expression, generic_identifier, property_access, index_expression, null_check, call, unary_expression, postfix_expression, binary_expression, type_test, type_cast, conditional, assignment, throw_expression, cascade, cascaded_name, cascaded_index, simple_string, interpolated_string, string_text, string_interpolation, map_entry, argument_list, argument, annotation, parameter_list, parameter, expression_body, empty_body, native_body, getter, setter, plain_function, variable_list, variable, block, variable_statement, function_statement, expression_statement, if_statement, while_statement, do_statement, for_statement, for_in_statement, for_in_assignment, switch_statement, switch_case, try_statement, catch_clause, return_statement, break_statement, continue_statement, rethrow_statement, labeled_statement, constructor_declaration, factory_declaration, method_declaration, field_declaration, operator_declaration, field_initializer, super_initializer, redirection, class_declaration, mixin_declaration, type_alias, function_declaration, variable_declaration, library_directive, import_directive, export_directive, part_directive, part_of_directive, part_of_library_directive, show_combinator, hide_combinator, listed_name, error_node, unit}
use Rattle.dart_tree.specs.declared.places.Place.{Place}

abbrev mutual
  -- an error node is an error of its own; every other node has the errors of its parts, one part after the other. Names and annotations have none
  pub errors_of : Tree → List Place
  errors_of (void_type at) = []
  errors_of (named_type at prefix name arguments nullable) = errors_of_part arguments
  errors_of (function_type at result type_parameters parameters optional nullable) = errors_of_part result ++ (errors_of_all type_parameters ++ (errors_of_all parameters ++ errors_of_all optional))
  errors_of (type_argument_list at types) = errors_of_all types
  errors_of (type_parameter at name bound) = errors_of_part bound
  errors_of (parameter_type at written name) = errors_of written
  errors_of (integer_literal at word) = []
  errors_of (string_literal at strings) = errors_of_all strings
  errors_of (boolean_literal at value) = []
  errors_of (null_literal at) = []
  errors_of (this_expression at) = []
  errors_of (super_expression at) = []
  errors_of (identifier at word) = []
  errors_of (parenthesis at inner) = errors_of inner
  errors_of (new_expression at written name arguments) = errors_of written ++ errors_of arguments
  errors_of (list_literal at type_arguments elements) = errors_of_part type_arguments ++ errors_of_all elements
  errors_of (set_or_map_literal at type_arguments entries) = errors_of_part type_arguments ++ errors_of_all entries
  errors_of (function_expression at parameters body) = errors_of parameters ++ errors_of body
  errors_of (generic_identifier at name type_arguments) = errors_of type_arguments
  errors_of (property_access at receiver null_aware name) = errors_of receiver
  errors_of (index_expression at receiver null_aware bracket index) = errors_of receiver ++ errors_of index
  errors_of (null_check at operand) = errors_of operand
  errors_of (call at callee type_arguments arguments) = errors_of callee ++ (errors_of_part type_arguments ++ errors_of arguments)
  errors_of (unary_expression at operator operand) = errors_of operand
  errors_of (postfix_expression at operator operand) = errors_of operand
  errors_of (binary_expression at operator left right) = errors_of left ++ errors_of right
  errors_of (type_test at operand negated written) = errors_of operand ++ errors_of written
  errors_of (type_cast at operand written) = errors_of operand ++ errors_of written
  errors_of (conditional at condition then_value else_value) = errors_of condition ++ (errors_of then_value ++ errors_of else_value)
  errors_of (assignment at operator target value) = errors_of target ++ errors_of value
  errors_of (throw_expression at value) = errors_of value
  errors_of (cascade at receiver null_aware section) = errors_of receiver ++ errors_of section
  errors_of (cascaded_name at name) = []
  errors_of (cascaded_index at bracket index) = errors_of index
  errors_of (simple_string at kind word) = []
  errors_of (interpolated_string at elements) = errors_of_all elements
  errors_of (string_text at kind word) = []
  errors_of (string_interpolation at value) = errors_of value
  errors_of (map_entry at key value) = errors_of key ++ errors_of_part value
  errors_of (argument_list at arguments) = errors_of_all arguments
  errors_of (argument at name value) = errors_of value
  errors_of (annotation at name) = []
  errors_of (parameter_list at parameters) = errors_of_all parameters
  errors_of (parameter at metadata kind is_required is_final written is_field name default_value) = errors_of_part written ++ errors_of_part default_value
  errors_of (expression_body at value) = errors_of value
  errors_of (empty_body at) = []
  errors_of (native_body at) = []
  errors_of (getter at result name body) = errors_of_part result ++ errors_of body
  errors_of (setter at result name parameters body) = errors_of_part result ++ (errors_of parameters ++ errors_of body)
  errors_of (plain_function at result name type_parameters parameters body) = errors_of_part result ++ (errors_of_all type_parameters ++ (errors_of parameters ++ errors_of body))
  errors_of (variable_list at is_final written variables) = errors_of_part written ++ errors_of_all variables
  errors_of (variable at name initializer) = errors_of_part initializer
  errors_of (block at statements) = errors_of_all statements
  errors_of (variable_statement at variables) = errors_of variables
  errors_of (function_statement at function) = errors_of function
  errors_of (expression_statement at value) = errors_of_part value
  errors_of (if_statement at condition then_branch else_branch) = errors_of condition ++ (errors_of then_branch ++ errors_of_part else_branch)
  errors_of (while_statement at condition body) = errors_of condition ++ errors_of body
  errors_of (do_statement at body condition) = errors_of body ++ errors_of condition
  errors_of (for_statement at initializer condition updates body) = errors_of_part initializer ++ (errors_of_part condition ++ (errors_of_all updates ++ errors_of body))
  errors_of (for_in_statement at is_final written name iterable body) = errors_of_part written ++ (errors_of iterable ++ errors_of body)
  errors_of (for_in_assignment at name iterable body) = errors_of iterable ++ errors_of body
  errors_of (switch_statement at value cases) = errors_of value ++ errors_of_all cases
  errors_of (switch_case at labels is_default statements) = errors_of_all labels ++ errors_of_all statements
  errors_of (try_statement at body handlers finally_block) = errors_of body ++ (errors_of_all handlers ++ errors_of_part finally_block)
  errors_of (catch_clause at written exception stack_trace body) = errors_of_part written ++ errors_of body
  errors_of (return_statement at value) = errors_of_part value
  errors_of (break_statement at label) = []
  errors_of (continue_statement at label) = []
  errors_of (rethrow_statement at) = []
  errors_of (labeled_statement at label body) = errors_of body
  errors_of (constructor_declaration at metadata name parameters initializers body) = errors_of parameters ++ (errors_of_all initializers ++ errors_of body)
  errors_of (factory_declaration at metadata name parameters body) = errors_of parameters ++ errors_of body
  errors_of (method_declaration at metadata is_static function) = errors_of function
  errors_of (field_declaration at metadata is_static variables) = errors_of variables
  errors_of (operator_declaration at metadata result name parameters body) = errors_of_part result ++ (errors_of parameters ++ errors_of body)
  errors_of (field_initializer at name value) = errors_of value
  errors_of (super_initializer at name arguments) = errors_of arguments
  errors_of (redirection at name arguments) = errors_of arguments
  errors_of (class_declaration at metadata is_abstract name type_parameters superclass mixins interfaces members) = errors_of_all type_parameters ++ (errors_of_part superclass ++ (errors_of_all mixins ++ (errors_of_all interfaces ++ errors_of_all members)))
  errors_of (mixin_declaration at metadata name type_parameters constraints interfaces members) = errors_of_all type_parameters ++ (errors_of_all constraints ++ (errors_of_all interfaces ++ errors_of_all members))
  errors_of (type_alias at metadata name written) = errors_of written
  errors_of (function_declaration at metadata function) = errors_of function
  errors_of (variable_declaration at metadata variables) = errors_of variables
  errors_of (library_directive at names) = []
  errors_of (import_directive at uri prefix combinators) = errors_of uri
  errors_of (export_directive at uri combinators) = errors_of uri
  errors_of (part_directive at uri) = errors_of uri
  errors_of (part_of_directive at uri) = errors_of uri
  errors_of (part_of_library_directive at names) = []
  errors_of (show_combinator at names) = []
  errors_of (hide_combinator at names) = []
  errors_of (listed_name at word) = []
  errors_of (error_node at) = at ∷ []
  errors_of (unit at items) = errors_of_all items

  -- those of the trees of a list
  pub errors_of_all : Trees → List Place
  errors_of_all no_more = []
  errors_of_all (more first rest) = errors_of first ++ errors_of_all rest

  -- and those of a part
  pub errors_of_part : Part → List Place
  errors_of_part absent = []
  errors_of_part (present tree) = errors_of tree
