-- Where a node stands.
use Rattle.dart_tree.specs.Tree.{Tree, void_type, named_type, function_type, type_argument_list, type_parameter, parameter_type, integer_literal, string_literal, boolean_literal, null_literal, this_expression, super_expression, identifier, parenthesis, new_expression, list_literal, set_or_map_literal, function_expression, generic_identifier, property_access, index_expression, null_check, call, unary_expression, postfix_expression, binary_expression, type_test, type_cast, conditional, assignment, throw_expression, cascade, cascaded_name, cascaded_index, simple_string, interpolated_string, string_text, string_interpolation, map_entry, argument_list, argument, annotation, parameter_list, parameter, expression_body, empty_body, native_body, getter, setter, plain_function, variable_list, variable, block, variable_statement, function_statement, expression_statement, if_statement, while_statement, do_statement, for_statement, for_in_statement, for_in_assignment, switch_statement, switch_case, try_statement, catch_clause, return_statement, break_statement, continue_statement, rethrow_statement, labeled_statement, constructor_declaration, factory_declaration, method_declaration, field_declaration, operator_declaration, field_initializer, super_initializer, redirection, class_declaration, mixin_declaration, type_alias, function_declaration, variable_declaration, library_directive, import_directive, export_directive, part_directive, part_of_directive, part_of_library_directive, show_combinator, hide_combinator, listed_name, error_node, unit}
use Rattle.dart_tree.specs.declared.places.Place.{Place}
use Rattle.dart_tree.specs.declared.places.Span.{Span}

-- the number and the range of a node
abbrev pub place_of : Tree → Place
place_of (void_type at) = at
place_of (named_type at prefix name arguments nullable) = at
place_of (function_type at result type_parameters parameters optional nullable) = at
place_of (type_argument_list at types) = at
place_of (type_parameter at name bound) = at
place_of (parameter_type at written name) = at
place_of (integer_literal at word) = at
place_of (string_literal at strings) = at
place_of (boolean_literal at value) = at
place_of (null_literal at) = at
place_of (this_expression at) = at
place_of (super_expression at) = at
place_of (identifier at word) = at
place_of (parenthesis at inner) = at
place_of (new_expression at written name arguments) = at
place_of (list_literal at type_arguments elements) = at
place_of (set_or_map_literal at type_arguments entries) = at
place_of (function_expression at parameters body) = at
place_of (generic_identifier at name type_arguments) = at
place_of (property_access at receiver null_aware name) = at
place_of (index_expression at receiver null_aware bracket index) = at
place_of (null_check at operand) = at
place_of (call at callee type_arguments arguments) = at
place_of (unary_expression at operator operand) = at
place_of (postfix_expression at operator operand) = at
place_of (binary_expression at operator left right) = at
place_of (type_test at operand negated written) = at
place_of (type_cast at operand written) = at
place_of (conditional at condition then_value else_value) = at
place_of (assignment at operator target value) = at
place_of (throw_expression at value) = at
place_of (cascade at receiver null_aware section) = at
place_of (cascaded_name at name) = at
place_of (cascaded_index at bracket index) = at
place_of (simple_string at kind word) = at
place_of (interpolated_string at elements) = at
place_of (string_text at kind word) = at
place_of (string_interpolation at value) = at
place_of (map_entry at key value) = at
place_of (argument_list at arguments) = at
place_of (argument at name value) = at
place_of (annotation at name) = at
place_of (parameter_list at parameters) = at
place_of (parameter at metadata kind is_required is_final written is_field name default_value) = at
place_of (expression_body at value) = at
place_of (empty_body at) = at
place_of (native_body at) = at
place_of (getter at result name body) = at
place_of (setter at result name parameters body) = at
place_of (plain_function at result name type_parameters parameters body) = at
place_of (variable_list at is_final written variables) = at
place_of (variable at name initializer) = at
place_of (block at statements) = at
place_of (variable_statement at variables) = at
place_of (function_statement at function) = at
place_of (expression_statement at value) = at
place_of (if_statement at condition then_branch else_branch) = at
place_of (while_statement at condition body) = at
place_of (do_statement at body condition) = at
place_of (for_statement at initializer condition updates body) = at
place_of (for_in_statement at is_final written name iterable body) = at
place_of (for_in_assignment at name iterable body) = at
place_of (switch_statement at value cases) = at
place_of (switch_case at labels is_default statements) = at
place_of (try_statement at body handlers finally_block) = at
place_of (catch_clause at written exception stack_trace body) = at
place_of (return_statement at value) = at
place_of (break_statement at label) = at
place_of (continue_statement at label) = at
place_of (rethrow_statement at) = at
place_of (labeled_statement at label body) = at
place_of (constructor_declaration at metadata name parameters initializers body) = at
place_of (factory_declaration at metadata name parameters body) = at
place_of (method_declaration at metadata is_static function) = at
place_of (field_declaration at metadata is_static variables) = at
place_of (operator_declaration at metadata result name parameters body) = at
place_of (field_initializer at name value) = at
place_of (super_initializer at name arguments) = at
place_of (redirection at name arguments) = at
place_of (class_declaration at metadata is_abstract name type_parameters superclass mixins interfaces members) = at
place_of (mixin_declaration at metadata name type_parameters constraints interfaces members) = at
place_of (type_alias at metadata name written) = at
place_of (function_declaration at metadata function) = at
place_of (variable_declaration at metadata variables) = at
place_of (library_directive at names) = at
place_of (import_directive at uri prefix combinators) = at
place_of (export_directive at uri combinators) = at
place_of (part_directive at uri) = at
place_of (part_of_directive at uri) = at
place_of (part_of_library_directive at names) = at
place_of (show_combinator at names) = at
place_of (hide_combinator at names) = at
place_of (listed_name at word) = at
place_of (error_node at) = at
place_of (unit at items) = at

-- the range of a node
abbrev pub span_of : Tree → Span
span_of t = (place_of t).span
