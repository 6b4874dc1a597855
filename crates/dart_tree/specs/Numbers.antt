-- The numbers of the nodes: in reading order, a node before the nodes in it, and names where they stand.
use Rattle.std.specs.Prelude.{ℕ, ◌+◌, List, [], ◌∷◌, ◌++◌, map}
use Rattle.dart_tree.specs.Tree.{Tree, Trees, Part, no_more, more, absent, present, void_type, named_type, function_type, type_argument_list, type_parameter, parameter_type, integer_literal, string_literal, boolean_literal, null_literal, this_expression, super_expression, identifier, parenthesis, new_expression, list_literal, set_or_map_literal, function_expression, generic_identifier, property_access, index_expression, null_check, call, unary_expression, postfix_expression, binary_expression, type_test, type_cast, conditional, assignment, throw_expression, cascade, cascaded_name, cascaded_index, simple_string, interpolated_string, string_text, string_interpolation, map_entry, argument_list, argument, annotation, parameter_list, parameter, expression_body, empty_body, native_body, getter, setter, plain_function, variable_list, variable, block, variable_statement, function_statement, expression_statement, if_statement, while_statement, do_statement, for_statement, for_in_statement, for_in_assignment, switch_statement, switch_case, try_statement, catch_clause, return_statement, break_statement, continue_statement, rethrow_statement, labeled_statement, constructor_declaration, factory_declaration, method_declaration, field_declaration, operator_declaration, field_initializer, super_initializer, redirection, class_declaration, mixin_declaration, type_alias, function_declaration, variable_declaration, library_directive, import_directive, export_directive, part_directive, part_of_directive, part_of_library_directive, show_combinator, hide_combinator, listed_name, error_node, unit}
use Rattle.dart_tree.specs.declared.names.ConstructorName.{ConstructorName}
use Rattle.dart_tree.specs.declared.names.Name.{Name}
use Rattle.dart_tree.specs.declared.operators.OperatorName.{OperatorName}
use Rattle.dart_tree.specs.declared.places.Place.{Place}
use Rattle.dart_tree.specs.declared.places.Span.{Span}

abbrev mutual
  -- how many nodes a tree has: itself, those in it, and each name that it declares or assigns
  pub nodes_in : Tree → ℕ
  nodes_in (void_type at) = 1
  nodes_in (named_type at prefix name arguments nullable) = 1 + nodes_in_part arguments
  nodes_in (function_type at result type_parameters parameters optional nullable) = 1 + nodes_in_part result + nodes_in_all type_parameters + nodes_in_all parameters + nodes_in_all optional
  nodes_in (type_argument_list at types) = 1 + nodes_in_all types
  nodes_in (type_parameter at name bound) = 2 + nodes_in_part bound
  nodes_in (parameter_type at written name) = 1 + nodes_in written
  nodes_in (integer_literal at word) = 1
  nodes_in (string_literal at strings) = 1 + nodes_in_all strings
  nodes_in (boolean_literal at value) = 1
  nodes_in (null_literal at) = 1
  nodes_in (this_expression at) = 1
  nodes_in (super_expression at) = 1
  nodes_in (identifier at word) = 1
  nodes_in (parenthesis at inner) = 1 + nodes_in inner
  nodes_in (new_expression at written name arguments) = 1 + nodes_in written + nodes_in arguments
  nodes_in (list_literal at type_arguments elements) = 1 + nodes_in_part type_arguments + nodes_in_all elements
  nodes_in (set_or_map_literal at type_arguments entries) = 1 + nodes_in_part type_arguments + nodes_in_all entries
  nodes_in (function_expression at parameters body) = 1 + nodes_in parameters + nodes_in body
  nodes_in (generic_identifier at name type_arguments) = 1 + nodes_in type_arguments
  nodes_in (property_access at receiver null_aware name) = 1 + nodes_in receiver
  nodes_in (index_expression at receiver null_aware bracket index) = 1 + nodes_in receiver + nodes_in index
  nodes_in (null_check at operand) = 1 + nodes_in operand
  nodes_in (call at callee type_arguments arguments) = 1 + nodes_in callee + nodes_in_part type_arguments + nodes_in arguments
  nodes_in (unary_expression at operator operand) = 1 + nodes_in operand
  nodes_in (postfix_expression at operator operand) = 1 + nodes_in operand
  nodes_in (binary_expression at operator left right) = 1 + nodes_in left + nodes_in right
  nodes_in (type_test at operand negated written) = 1 + nodes_in operand + nodes_in written
  nodes_in (type_cast at operand written) = 1 + nodes_in operand + nodes_in written
  nodes_in (conditional at condition then_value else_value) = 1 + nodes_in condition + nodes_in then_value + nodes_in else_value
  nodes_in (assignment at operator target value) = 1 + nodes_in target + nodes_in value
  nodes_in (throw_expression at value) = 1 + nodes_in value
  nodes_in (cascade at receiver null_aware section) = 1 + nodes_in receiver + nodes_in section
  nodes_in (cascaded_name at name) = 1
  nodes_in (cascaded_index at bracket index) = 1 + nodes_in index
  nodes_in (simple_string at kind word) = 1
  nodes_in (interpolated_string at elements) = 1 + nodes_in_all elements
  nodes_in (string_text at kind word) = 1
  nodes_in (string_interpolation at value) = 1 + nodes_in value
  nodes_in (map_entry at key value) = 1 + nodes_in key + nodes_in_part value
  nodes_in (argument_list at arguments) = 1 + nodes_in_all arguments
  nodes_in (argument at name value) = 1 + nodes_in value
  nodes_in (annotation at name) = 1
  nodes_in (parameter_list at parameters) = 1 + nodes_in_all parameters
  nodes_in (parameter at metadata kind is_required is_final written is_field name default_value) = 2 + nodes_in_all metadata + nodes_in_part written + nodes_in_part default_value
  nodes_in (expression_body at value) = 1 + nodes_in value
  nodes_in (empty_body at) = 1
  nodes_in (native_body at) = 1
  nodes_in (getter at result name body) = 2 + nodes_in_part result + nodes_in body
  nodes_in (setter at result name parameters body) = 2 + nodes_in_part result + nodes_in parameters + nodes_in body
  nodes_in (plain_function at result name type_parameters parameters body) = 2 + nodes_in_part result + nodes_in_all type_parameters + nodes_in parameters + nodes_in body
  nodes_in (variable_list at is_final written variables) = 1 + nodes_in_part written + nodes_in_all variables
  nodes_in (variable at name initializer) = 2 + nodes_in_part initializer
  nodes_in (block at statements) = 1 + nodes_in_all statements
  nodes_in (variable_statement at variables) = 1 + nodes_in variables
  nodes_in (function_statement at function) = 1 + nodes_in function
  nodes_in (expression_statement at value) = 1 + nodes_in_part value
  nodes_in (if_statement at condition then_branch else_branch) = 1 + nodes_in condition + nodes_in then_branch + nodes_in_part else_branch
  nodes_in (while_statement at condition body) = 1 + nodes_in condition + nodes_in body
  nodes_in (do_statement at body condition) = 1 + nodes_in body + nodes_in condition
  nodes_in (for_statement at initializer condition updates body) = 1 + nodes_in_part initializer + nodes_in_part condition + nodes_in_all updates + nodes_in body
  nodes_in (for_in_statement at is_final written name iterable body) = 2 + nodes_in_part written + nodes_in iterable + nodes_in body
  nodes_in (for_in_assignment at name iterable body) = 2 + nodes_in iterable + nodes_in body
  nodes_in (switch_statement at value cases) = 1 + nodes_in value + nodes_in_all cases
  nodes_in (switch_case at labels is_default statements) = 1 + nodes_in_all labels + nodes_in_all statements
  nodes_in (try_statement at body handlers finally_block) = 1 + nodes_in body + nodes_in_all handlers + nodes_in_part finally_block
  nodes_in (catch_clause at written exception stack_trace body) = 1 + nodes_in_part written + nodes_in_part exception + nodes_in_part stack_trace + nodes_in body
  nodes_in (return_statement at value) = 1 + nodes_in_part value
  nodes_in (break_statement at label) = 1
  nodes_in (continue_statement at label) = 1
  nodes_in (rethrow_statement at) = 1
  nodes_in (labeled_statement at label body) = 2 + nodes_in body
  nodes_in (constructor_declaration at metadata name parameters initializers body) = 2 + nodes_in_all metadata + nodes_in parameters + nodes_in_all initializers + nodes_in body
  nodes_in (factory_declaration at metadata name parameters body) = 2 + nodes_in_all metadata + nodes_in parameters + nodes_in body
  nodes_in (method_declaration at metadata is_static function) = 1 + nodes_in_all metadata + nodes_in function
  nodes_in (field_declaration at metadata is_static variables) = 1 + nodes_in_all metadata + nodes_in variables
  nodes_in (operator_declaration at metadata result name parameters body) = 2 + nodes_in_all metadata + nodes_in_part result + nodes_in parameters + nodes_in body
  nodes_in (field_initializer at name value) = 1 + nodes_in value
  nodes_in (super_initializer at name arguments) = 1 + nodes_in arguments
  nodes_in (redirection at name arguments) = 1 + nodes_in arguments
  nodes_in (class_declaration at metadata is_abstract name type_parameters superclass mixins interfaces members) = 2 + nodes_in_all metadata + nodes_in_all type_parameters + nodes_in_part superclass + nodes_in_all mixins + nodes_in_all interfaces + nodes_in_all members
  nodes_in (mixin_declaration at metadata name type_parameters constraints interfaces members) = 2 + nodes_in_all metadata + nodes_in_all type_parameters + nodes_in_all constraints + nodes_in_all interfaces + nodes_in_all members
  nodes_in (type_alias at metadata name written) = 2 + nodes_in_all metadata + nodes_in written
  nodes_in (function_declaration at metadata function) = 1 + nodes_in_all metadata + nodes_in function
  nodes_in (variable_declaration at metadata variables) = 1 + nodes_in_all metadata + nodes_in variables
  nodes_in (library_directive at names) = 1 + nodes_in_all names
  nodes_in (import_directive at uri prefix combinators) = 1 + nodes_in uri + nodes_in_part prefix + nodes_in_all combinators
  nodes_in (export_directive at uri combinators) = 1 + nodes_in uri + nodes_in_all combinators
  nodes_in (part_directive at uri) = 1 + nodes_in uri
  nodes_in (part_of_directive at uri) = 1 + nodes_in uri
  nodes_in (part_of_library_directive at names) = 1 + nodes_in_all names
  nodes_in (show_combinator at names) = 1 + nodes_in_all names
  nodes_in (hide_combinator at names) = 1 + nodes_in_all names
  nodes_in (listed_name at word) = 1
  nodes_in (error_node at) = 1
  nodes_in (unit at items) = 1 + nodes_in_all items

  -- how many nodes the trees of a list have together
  pub nodes_in_all : Trees → ℕ
  nodes_in_all no_more = 0
  nodes_in_all (more first rest) = nodes_in first + nodes_in_all rest

  -- how many nodes a part has: none where it is left out
  pub nodes_in_part : Part → ℕ
  nodes_in_part absent = 0
  nodes_in_part (present tree) = nodes_in tree

-- a place with another number
abbrev pub place_numbered : ℕ → Place → Place
place_numbered n at = record at { node = record { 0 = n } }

-- a name with another number
abbrev pub name_numbered : ℕ → Name → Name
name_numbered n x = record x { at = place_numbered n x.at }

-- so of a constructor
abbrev pub constructor_name_numbered : ℕ → ConstructorName → ConstructorName
constructor_name_numbered n x = record x { at = place_numbered n x.at }

-- and of an operator
abbrev pub operator_name_numbered : ℕ → OperatorName → OperatorName
operator_name_numbered n x = record x { at = place_numbered n x.at }

abbrev mutual
  -- the same tree with its nodes numbered in reading order from n on
  pub numbered : ℕ → Tree → Tree
  numbered n (void_type at) = void_type (place_numbered n at)
  numbered n (named_type at prefix name arguments nullable) = named_type (place_numbered n at) prefix name (part_numbered (n + 1) arguments) nullable
  numbered n (function_type at result type_parameters parameters optional nullable) = function_type (place_numbered n at) (part_numbered (n + 1) result) (all_numbered (n + 1 + nodes_in_part result) type_parameters) (all_numbered (n + 1 + nodes_in_part result + nodes_in_all type_parameters) parameters) (all_numbered (n + 1 + nodes_in_part result + nodes_in_all type_parameters + nodes_in_all parameters) optional) nullable
  numbered n (type_argument_list at types) = type_argument_list (place_numbered n at) (all_numbered (n + 1) types)
  numbered n (type_parameter at name bound) = type_parameter (place_numbered n at) (name_numbered (n + 1) name) (part_numbered (n + 1 + 1) bound)
  numbered n (parameter_type at written name) = parameter_type (place_numbered n at) (numbered (n + 1) written) name
  numbered n (integer_literal at word) = integer_literal (place_numbered n at) word
  numbered n (string_literal at strings) = string_literal (place_numbered n at) (all_numbered (n + 1) strings)
  numbered n (boolean_literal at value) = boolean_literal (place_numbered n at) value
  numbered n (null_literal at) = null_literal (place_numbered n at)
  numbered n (this_expression at) = this_expression (place_numbered n at)
  numbered n (super_expression at) = super_expression (place_numbered n at)
  numbered n (identifier at word) = identifier (place_numbered n at) word
  numbered n (parenthesis at inner) = parenthesis (place_numbered n at) (numbered (n + 1) inner)
  numbered n (new_expression at written name arguments) = new_expression (place_numbered n at) (numbered (n + 1) written) name (numbered (n + 1 + nodes_in written) arguments)
  numbered n (list_literal at type_arguments elements) = list_literal (place_numbered n at) (part_numbered (n + 1) type_arguments) (all_numbered (n + 1 + nodes_in_part type_arguments) elements)
  numbered n (set_or_map_literal at type_arguments entries) = set_or_map_literal (place_numbered n at) (part_numbered (n + 1) type_arguments) (all_numbered (n + 1 + nodes_in_part type_arguments) entries)
  numbered n (function_expression at parameters body) = function_expression (place_numbered n at) (numbered (n + 1) parameters) (numbered (n + 1 + nodes_in parameters) body)
  numbered n (generic_identifier at name type_arguments) = generic_identifier (place_numbered n at) name (numbered (n + 1) type_arguments)
  numbered n (property_access at receiver null_aware name) = property_access (place_numbered n at) (numbered (n + 1) receiver) null_aware name
  numbered n (index_expression at receiver null_aware bracket index) = index_expression (place_numbered n at) (numbered (n + 1) receiver) null_aware bracket (numbered (n + 1 + nodes_in receiver) index)
  numbered n (null_check at operand) = null_check (place_numbered n at) (numbered (n + 1) operand)
  numbered n (call at callee type_arguments arguments) = call (place_numbered n at) (numbered (n + 1) callee) (part_numbered (n + 1 + nodes_in callee) type_arguments) (numbered (n + 1 + nodes_in callee + nodes_in_part type_arguments) arguments)
  numbered n (unary_expression at operator operand) = unary_expression (place_numbered n at) operator (numbered (n + 1) operand)
  numbered n (postfix_expression at operator operand) = postfix_expression (place_numbered n at) operator (numbered (n + 1) operand)
  numbered n (binary_expression at operator left right) = binary_expression (place_numbered n at) operator (numbered (n + 1) left) (numbered (n + 1 + nodes_in left) right)
  numbered n (type_test at operand negated written) = type_test (place_numbered n at) (numbered (n + 1) operand) negated (numbered (n + 1 + nodes_in operand) written)
  numbered n (type_cast at operand written) = type_cast (place_numbered n at) (numbered (n + 1) operand) (numbered (n + 1 + nodes_in operand) written)
  numbered n (conditional at condition then_value else_value) = conditional (place_numbered n at) (numbered (n + 1) condition) (numbered (n + 1 + nodes_in condition) then_value) (numbered (n + 1 + nodes_in condition + nodes_in then_value) else_value)
  numbered n (assignment at operator target value) = assignment (place_numbered n at) operator (numbered (n + 1) target) (numbered (n + 1 + nodes_in target) value)
  numbered n (throw_expression at value) = throw_expression (place_numbered n at) (numbered (n + 1) value)
  numbered n (cascade at receiver null_aware section) = cascade (place_numbered n at) (numbered (n + 1) receiver) null_aware (numbered (n + 1 + nodes_in receiver) section)
  numbered n (cascaded_name at name) = cascaded_name (place_numbered n at) name
  numbered n (cascaded_index at bracket index) = cascaded_index (place_numbered n at) bracket (numbered (n + 1) index)
  numbered n (simple_string at kind word) = simple_string (place_numbered n at) kind word
  numbered n (interpolated_string at elements) = interpolated_string (place_numbered n at) (all_numbered (n + 1) elements)
  numbered n (string_text at kind word) = string_text (place_numbered n at) kind word
  numbered n (string_interpolation at value) = string_interpolation (place_numbered n at) (numbered (n + 1) value)
  numbered n (map_entry at key value) = map_entry (place_numbered n at) (numbered (n + 1) key) (part_numbered (n + 1 + nodes_in key) value)
  numbered n (argument_list at arguments) = argument_list (place_numbered n at) (all_numbered (n + 1) arguments)
  numbered n (argument at name value) = argument (place_numbered n at) name (numbered (n + 1) value)
  numbered n (annotation at name) = annotation (place_numbered n at) name
  numbered n (parameter_list at parameters) = parameter_list (place_numbered n at) (all_numbered (n + 1) parameters)
  numbered n (parameter at metadata kind is_required is_final written is_field name default_value) = parameter (place_numbered n at) (all_numbered (n + 1) metadata) kind is_required is_final (part_numbered (n + 1 + nodes_in_all metadata) written) is_field (name_numbered (n + 1 + nodes_in_all metadata + nodes_in_part written) name) (part_numbered (n + 1 + nodes_in_all metadata + nodes_in_part written + 1) default_value)
  numbered n (expression_body at value) = expression_body (place_numbered n at) (numbered (n + 1) value)
  numbered n (empty_body at) = empty_body (place_numbered n at)
  numbered n (native_body at) = native_body (place_numbered n at)
  numbered n (getter at result name body) = getter (place_numbered n at) (part_numbered (n + 1) result) (name_numbered (n + 1 + nodes_in_part result) name) (numbered (n + 1 + nodes_in_part result + 1) body)
  numbered n (setter at result name parameters body) = setter (place_numbered n at) (part_numbered (n + 1) result) (name_numbered (n + 1 + nodes_in_part result) name) (numbered (n + 1 + nodes_in_part result + 1) parameters) (numbered (n + 1 + nodes_in_part result + 1 + nodes_in parameters) body)
  numbered n (plain_function at result name type_parameters parameters body) = plain_function (place_numbered n at) (part_numbered (n + 1) result) (name_numbered (n + 1 + nodes_in_part result) name) (all_numbered (n + 1 + nodes_in_part result + 1) type_parameters) (numbered (n + 1 + nodes_in_part result + 1 + nodes_in_all type_parameters) parameters) (numbered (n + 1 + nodes_in_part result + 1 + nodes_in_all type_parameters + nodes_in parameters) body)
  numbered n (variable_list at is_final written variables) = variable_list (place_numbered n at) is_final (part_numbered (n + 1) written) (all_numbered (n + 1 + nodes_in_part written) variables)
  numbered n (variable at name initializer) = variable (place_numbered n at) (name_numbered (n + 1) name) (part_numbered (n + 1 + 1) initializer)
  numbered n (block at statements) = block (place_numbered n at) (all_numbered (n + 1) statements)
  numbered n (variable_statement at variables) = variable_statement (place_numbered n at) (numbered (n + 1) variables)
  numbered n (function_statement at function) = function_statement (place_numbered n at) (numbered (n + 1) function)
  numbered n (expression_statement at value) = expression_statement (place_numbered n at) (part_numbered (n + 1) value)
  numbered n (if_statement at condition then_branch else_branch) = if_statement (place_numbered n at) (numbered (n + 1) condition) (numbered (n + 1 + nodes_in condition) then_branch) (part_numbered (n + 1 + nodes_in condition + nodes_in then_branch) else_branch)
  numbered n (while_statement at condition body) = while_statement (place_numbered n at) (numbered (n + 1) condition) (numbered (n + 1 + nodes_in condition) body)
  numbered n (do_statement at body condition) = do_statement (place_numbered n at) (numbered (n + 1) body) (numbered (n + 1 + nodes_in body) condition)
  numbered n (for_statement at initializer condition updates body) = for_statement (place_numbered n at) (part_numbered (n + 1) initializer) (part_numbered (n + 1 + nodes_in_part initializer) condition) (all_numbered (n + 1 + nodes_in_part initializer + nodes_in_part condition) updates) (numbered (n + 1 + nodes_in_part initializer + nodes_in_part condition + nodes_in_all updates) body)
  numbered n (for_in_statement at is_final written name iterable body) = for_in_statement (place_numbered n at) is_final (part_numbered (n + 1) written) (name_numbered (n + 1 + nodes_in_part written) name) (numbered (n + 1 + nodes_in_part written + 1) iterable) (numbered (n + 1 + nodes_in_part written + 1 + nodes_in iterable) body)
  numbered n (for_in_assignment at name iterable body) = for_in_assignment (place_numbered n at) (name_numbered (n + 1) name) (numbered (n + 1 + 1) iterable) (numbered (n + 1 + 1 + nodes_in iterable) body)
  numbered n (switch_statement at value cases) = switch_statement (place_numbered n at) (numbered (n + 1) value) (all_numbered (n + 1 + nodes_in value) cases)
  numbered n (switch_case at labels is_default statements) = switch_case (place_numbered n at) (all_numbered (n + 1) labels) is_default (all_numbered (n + 1 + nodes_in_all labels) statements)
  numbered n (try_statement at body handlers finally_block) = try_statement (place_numbered n at) (numbered (n + 1) body) (all_numbered (n + 1 + nodes_in body) handlers) (part_numbered (n + 1 + nodes_in body + nodes_in_all handlers) finally_block)
  numbered n (catch_clause at written exception stack_trace body) = catch_clause (place_numbered n at) (part_numbered (n + 1) written) (part_numbered (n + 1 + nodes_in_part written) exception) (part_numbered (n + 1 + nodes_in_part written + nodes_in_part exception) stack_trace) (numbered (n + 1 + nodes_in_part written + nodes_in_part exception + nodes_in_part stack_trace) body)
  numbered n (return_statement at value) = return_statement (place_numbered n at) (part_numbered (n + 1) value)
  numbered n (break_statement at label) = break_statement (place_numbered n at) label
  numbered n (continue_statement at label) = continue_statement (place_numbered n at) label
  numbered n (rethrow_statement at) = rethrow_statement (place_numbered n at)
  numbered n (labeled_statement at label body) = labeled_statement (place_numbered n at) (name_numbered (n + 1) label) (numbered (n + 1 + 1) body)
  numbered n (constructor_declaration at metadata name parameters initializers body) = constructor_declaration (place_numbered n at) (all_numbered (n + 1) metadata) (constructor_name_numbered (n + 1 + nodes_in_all metadata) name) (numbered (n + 1 + nodes_in_all metadata + 1) parameters) (all_numbered (n + 1 + nodes_in_all metadata + 1 + nodes_in parameters) initializers) (numbered (n + 1 + nodes_in_all metadata + 1 + nodes_in parameters + nodes_in_all initializers) body)
  numbered n (factory_declaration at metadata name parameters body) = factory_declaration (place_numbered n at) (all_numbered (n + 1) metadata) (constructor_name_numbered (n + 1 + nodes_in_all metadata) name) (numbered (n + 1 + nodes_in_all metadata + 1) parameters) (numbered (n + 1 + nodes_in_all metadata + 1 + nodes_in parameters) body)
  numbered n (method_declaration at metadata is_static function) = method_declaration (place_numbered n at) (all_numbered (n + 1) metadata) is_static (numbered (n + 1 + nodes_in_all metadata) function)
  numbered n (field_declaration at metadata is_static variables) = field_declaration (place_numbered n at) (all_numbered (n + 1) metadata) is_static (numbered (n + 1 + nodes_in_all metadata) variables)
  numbered n (operator_declaration at metadata result name parameters body) = operator_declaration (place_numbered n at) (all_numbered (n + 1) metadata) (part_numbered (n + 1 + nodes_in_all metadata) result) (operator_name_numbered (n + 1 + nodes_in_all metadata + nodes_in_part result) name) (numbered (n + 1 + nodes_in_all metadata + nodes_in_part result + 1) parameters) (numbered (n + 1 + nodes_in_all metadata + nodes_in_part result + 1 + nodes_in parameters) body)
  numbered n (field_initializer at name value) = field_initializer (place_numbered n at) name (numbered (n + 1) value)
  numbered n (super_initializer at name arguments) = super_initializer (place_numbered n at) name (numbered (n + 1) arguments)
  numbered n (redirection at name arguments) = redirection (place_numbered n at) name (numbered (n + 1) arguments)
  numbered n (class_declaration at metadata is_abstract name type_parameters superclass mixins interfaces members) = class_declaration (place_numbered n at) (all_numbered (n + 1) metadata) is_abstract (name_numbered (n + 1 + nodes_in_all metadata) name) (all_numbered (n + 1 + nodes_in_all metadata + 1) type_parameters) (part_numbered (n + 1 + nodes_in_all metadata + 1 + nodes_in_all type_parameters) superclass) (all_numbered (n + 1 + nodes_in_all metadata + 1 + nodes_in_all type_parameters + nodes_in_part superclass) mixins) (all_numbered (n + 1 + nodes_in_all metadata + 1 + nodes_in_all type_parameters + nodes_in_part superclass + nodes_in_all mixins) interfaces) (all_numbered (n + 1 + nodes_in_all metadata + 1 + nodes_in_all type_parameters + nodes_in_part superclass + nodes_in_all mixins + nodes_in_all interfaces) members)
  numbered n (mixin_declaration at metadata name type_parameters constraints interfaces members) = mixin_declaration (place_numbered n at) (all_numbered (n + 1) metadata) (name_numbered (n + 1 + nodes_in_all metadata) name) (all_numbered (n + 1 + nodes_in_all metadata + 1) type_parameters) (all_numbered (n + 1 + nodes_in_all metadata + 1 + nodes_in_all type_parameters) constraints) (all_numbered (n + 1 + nodes_in_all metadata + 1 + nodes_in_all type_parameters + nodes_in_all constraints) interfaces) (all_numbered (n + 1 + nodes_in_all metadata + 1 + nodes_in_all type_parameters + nodes_in_all constraints + nodes_in_all interfaces) members)
  numbered n (type_alias at metadata name written) = type_alias (place_numbered n at) (all_numbered (n + 1) metadata) (name_numbered (n + 1 + nodes_in_all metadata) name) (numbered (n + 1 + nodes_in_all metadata + 1) written)
  numbered n (function_declaration at metadata function) = function_declaration (place_numbered n at) (all_numbered (n + 1) metadata) (numbered (n + 1 + nodes_in_all metadata) function)
  numbered n (variable_declaration at metadata variables) = variable_declaration (place_numbered n at) (all_numbered (n + 1) metadata) (numbered (n + 1 + nodes_in_all metadata) variables)
  numbered n (library_directive at names) = library_directive (place_numbered n at) (all_numbered (n + 1) names)
  numbered n (import_directive at uri prefix combinators) = import_directive (place_numbered n at) (numbered (n + 1) uri) (part_numbered (n + 1 + nodes_in uri) prefix) (all_numbered (n + 1 + nodes_in uri + nodes_in_part prefix) combinators)
  numbered n (export_directive at uri combinators) = export_directive (place_numbered n at) (numbered (n + 1) uri) (all_numbered (n + 1 + nodes_in uri) combinators)
  numbered n (part_directive at uri) = part_directive (place_numbered n at) (numbered (n + 1) uri)
  numbered n (part_of_directive at uri) = part_of_directive (place_numbered n at) (numbered (n + 1) uri)
  numbered n (part_of_library_directive at names) = part_of_library_directive (place_numbered n at) (all_numbered (n + 1) names)
  numbered n (show_combinator at names) = show_combinator (place_numbered n at) (all_numbered (n + 1) names)
  numbered n (hide_combinator at names) = hide_combinator (place_numbered n at) (all_numbered (n + 1) names)
  numbered n (listed_name at word) = listed_name (place_numbered n at) word
  numbered n (error_node at) = error_node (place_numbered n at)
  numbered n (unit at items) = unit (place_numbered n at) (all_numbered (n + 1) items)

  -- the trees of a list, each numbered from where the one before it ends
  pub all_numbered : ℕ → Trees → Trees
  all_numbered n no_more = no_more
  all_numbered n (more first rest) = more (numbered n first) (all_numbered (n + nodes_in first) rest)

  -- a part with its nodes numbered from n on
  pub part_numbered : ℕ → Part → Part
  part_numbered n absent = absent
  part_numbered n (present tree) = present (numbered n tree)

-- the number that a place has
abbrev pub number_at : Place → ℕ
number_at at = at.node.0

-- the range that a place has
abbrev pub span_at : Place → Span
span_at at = at.span

abbrev mutual
  -- the places of all nodes of a tree in reading order, those of its names among them
  pub places_of : Tree → List Place
  places_of (void_type at) = at ∷ []
  places_of (named_type at prefix name arguments nullable) = at ∷ places_of_part arguments
  places_of (function_type at result type_parameters parameters optional nullable) = at ∷ (places_of_part result ++ (places_of_all type_parameters ++ (places_of_all parameters ++ (places_of_all optional))))
  places_of (type_argument_list at types) = at ∷ places_of_all types
  places_of (type_parameter at name bound) = at ∷ name.at ∷ places_of_part bound
  places_of (parameter_type at written name) = at ∷ places_of written
  places_of (integer_literal at word) = at ∷ []
  places_of (string_literal at strings) = at ∷ places_of_all strings
  places_of (boolean_literal at value) = at ∷ []
  places_of (null_literal at) = at ∷ []
  places_of (this_expression at) = at ∷ []
  places_of (super_expression at) = at ∷ []
  places_of (identifier at word) = at ∷ []
  places_of (parenthesis at inner) = at ∷ places_of inner
  places_of (new_expression at written name arguments) = at ∷ (places_of written ++ (places_of arguments))
  places_of (list_literal at type_arguments elements) = at ∷ (places_of_part type_arguments ++ (places_of_all elements))
  places_of (set_or_map_literal at type_arguments entries) = at ∷ (places_of_part type_arguments ++ (places_of_all entries))
  places_of (function_expression at parameters body) = at ∷ (places_of parameters ++ (places_of body))
  places_of (generic_identifier at name type_arguments) = at ∷ places_of type_arguments
  places_of (property_access at receiver null_aware name) = at ∷ places_of receiver
  places_of (index_expression at receiver null_aware bracket index) = at ∷ (places_of receiver ++ (places_of index))
  places_of (null_check at operand) = at ∷ places_of operand
  places_of (call at callee type_arguments arguments) = at ∷ (places_of callee ++ (places_of_part type_arguments ++ (places_of arguments)))
  places_of (unary_expression at operator operand) = at ∷ places_of operand
  places_of (postfix_expression at operator operand) = at ∷ places_of operand
  places_of (binary_expression at operator left right) = at ∷ (places_of left ++ (places_of right))
  places_of (type_test at operand negated written) = at ∷ (places_of operand ++ (places_of written))
  places_of (type_cast at operand written) = at ∷ (places_of operand ++ (places_of written))
  places_of (conditional at condition then_value else_value) = at ∷ (places_of condition ++ (places_of then_value ++ (places_of else_value)))
  places_of (assignment at operator target value) = at ∷ (places_of target ++ (places_of value))
  places_of (throw_expression at value) = at ∷ places_of value
  places_of (cascade at receiver null_aware section) = at ∷ (places_of receiver ++ (places_of section))
  places_of (cascaded_name at name) = at ∷ []
  places_of (cascaded_index at bracket index) = at ∷ places_of index
  places_of (simple_string at kind word) = at ∷ []
  places_of (interpolated_string at elements) = at ∷ places_of_all elements
  places_of (string_text at kind word) = at ∷ []
  places_of (string_interpolation at value) = at ∷ places_of value
  places_of (map_entry at key value) = at ∷ (places_of key ++ (places_of_part value))
  places_of (argument_list at arguments) = at ∷ places_of_all arguments
  places_of (argument at name value) = at ∷ places_of value
  places_of (annotation at name) = at ∷ []
  places_of (parameter_list at parameters) = at ∷ places_of_all parameters
  places_of (parameter at metadata kind is_required is_final written is_field name default_value) = at ∷ (places_of_all metadata ++ (places_of_part written ++ (name.at ∷ places_of_part default_value)))
  places_of (expression_body at value) = at ∷ places_of value
  places_of (empty_body at) = at ∷ []
  places_of (native_body at) = at ∷ []
  places_of (getter at result name body) = at ∷ (places_of_part result ++ (name.at ∷ places_of body))
  places_of (setter at result name parameters body) = at ∷ (places_of_part result ++ (name.at ∷ places_of parameters ++ (places_of body)))
  places_of (plain_function at result name type_parameters parameters body) = at ∷ (places_of_part result ++ (name.at ∷ places_of_all type_parameters ++ (places_of parameters ++ (places_of body))))
  places_of (variable_list at is_final written variables) = at ∷ (places_of_part written ++ (places_of_all variables))
  places_of (variable at name initializer) = at ∷ name.at ∷ places_of_part initializer
  places_of (block at statements) = at ∷ places_of_all statements
  places_of (variable_statement at variables) = at ∷ places_of variables
  places_of (function_statement at function) = at ∷ places_of function
  places_of (expression_statement at value) = at ∷ places_of_part value
  places_of (if_statement at condition then_branch else_branch) = at ∷ (places_of condition ++ (places_of then_branch ++ (places_of_part else_branch)))
  places_of (while_statement at condition body) = at ∷ (places_of condition ++ (places_of body))
  places_of (do_statement at body condition) = at ∷ (places_of body ++ (places_of condition))
  places_of (for_statement at initializer condition updates body) = at ∷ (places_of_part initializer ++ (places_of_part condition ++ (places_of_all updates ++ (places_of body))))
  places_of (for_in_statement at is_final written name iterable body) = at ∷ (places_of_part written ++ (name.at ∷ places_of iterable ++ (places_of body)))
  places_of (for_in_assignment at name iterable body) = at ∷ (name.at ∷ places_of iterable ++ (places_of body))
  places_of (switch_statement at value cases) = at ∷ (places_of value ++ (places_of_all cases))
  places_of (switch_case at labels is_default statements) = at ∷ (places_of_all labels ++ (places_of_all statements))
  places_of (try_statement at body handlers finally_block) = at ∷ (places_of body ++ (places_of_all handlers ++ (places_of_part finally_block)))
  places_of (catch_clause at written exception stack_trace body) = at ∷ (places_of_part written ++ (places_of_part exception ++ (places_of_part stack_trace ++ (places_of body))))
  places_of (return_statement at value) = at ∷ places_of_part value
  places_of (break_statement at label) = at ∷ []
  places_of (continue_statement at label) = at ∷ []
  places_of (rethrow_statement at) = at ∷ []
  places_of (labeled_statement at label body) = at ∷ label.at ∷ places_of body
  places_of (constructor_declaration at metadata name parameters initializers body) = at ∷ (places_of_all metadata ++ (name.at ∷ places_of parameters ++ (places_of_all initializers ++ (places_of body))))
  places_of (factory_declaration at metadata name parameters body) = at ∷ (places_of_all metadata ++ (name.at ∷ places_of parameters ++ (places_of body)))
  places_of (method_declaration at metadata is_static function) = at ∷ (places_of_all metadata ++ (places_of function))
  places_of (field_declaration at metadata is_static variables) = at ∷ (places_of_all metadata ++ (places_of variables))
  places_of (operator_declaration at metadata result name parameters body) = at ∷ (places_of_all metadata ++ (places_of_part result ++ (name.at ∷ places_of parameters ++ (places_of body))))
  places_of (field_initializer at name value) = at ∷ places_of value
  places_of (super_initializer at name arguments) = at ∷ places_of arguments
  places_of (redirection at name arguments) = at ∷ places_of arguments
  places_of (class_declaration at metadata is_abstract name type_parameters superclass mixins interfaces members) = at ∷ (places_of_all metadata ++ (name.at ∷ places_of_all type_parameters ++ (places_of_part superclass ++ (places_of_all mixins ++ (places_of_all interfaces ++ (places_of_all members))))))
  places_of (mixin_declaration at metadata name type_parameters constraints interfaces members) = at ∷ (places_of_all metadata ++ (name.at ∷ places_of_all type_parameters ++ (places_of_all constraints ++ (places_of_all interfaces ++ (places_of_all members)))))
  places_of (type_alias at metadata name written) = at ∷ (places_of_all metadata ++ (name.at ∷ places_of written))
  places_of (function_declaration at metadata function) = at ∷ (places_of_all metadata ++ (places_of function))
  places_of (variable_declaration at metadata variables) = at ∷ (places_of_all metadata ++ (places_of variables))
  places_of (library_directive at names) = at ∷ places_of_all names
  places_of (import_directive at uri prefix combinators) = at ∷ (places_of uri ++ (places_of_part prefix ++ (places_of_all combinators)))
  places_of (export_directive at uri combinators) = at ∷ (places_of uri ++ (places_of_all combinators))
  places_of (part_directive at uri) = at ∷ places_of uri
  places_of (part_of_directive at uri) = at ∷ places_of uri
  places_of (part_of_library_directive at names) = at ∷ places_of_all names
  places_of (show_combinator at names) = at ∷ places_of_all names
  places_of (hide_combinator at names) = at ∷ places_of_all names
  places_of (listed_name at word) = at ∷ []
  places_of (error_node at) = at ∷ []
  places_of (unit at items) = at ∷ places_of_all items

  -- the places of the nodes of a list of trees
  pub places_of_all : Trees → List Place
  places_of_all no_more = []
  places_of_all (more first rest) = places_of first ++ places_of_all rest

  -- the places of a part's nodes
  pub places_of_part : Part → List Place
  places_of_part absent = []
  places_of_part (present tree) = places_of tree

-- the numbers of all nodes of a tree in reading order
abbrev pub numbers_of : Tree → List ℕ
numbers_of t = map number_at (places_of t)

-- the ranges of all nodes of a tree in reading order
abbrev pub spans_of : Tree → List Span
spans_of t = map span_at (places_of t)
