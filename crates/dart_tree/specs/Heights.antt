-- How deep trees are. Of the nodes each unit, directive, declaration, member, block, statement, type and expression counts;
-- lists, parameters, arguments, cases, clauses and the like are parts of those that hold them. What derives nothing counts nothing.
use Rattle.std.specs.Prelude.{ℕ, suc, nat_lt, not, Bool, if◌then◌else◌}
use Rattle.dart_tree.specs.Tree.{Tree, Trees, Part, no_more, more, absent, present, void_type, named_type, function_type, type_argument_list, type_parameter, parameter_type, integer_literal, string_literal, boolean_literal, null_literal, this_expression, super_expression, identifier, parenthesis, new_expression, list_literal, set_or_map_literal, function_expression, generic_identifier, property_access, index_expression, null_check, call, unary_expression, postfix_expression, binary_expression, type_test, type_cast, conditional, assignment, throw_expression, cascade, cascaded_name, cascaded_index, simple_string, interpolated_string, string_text, string_interpolation, map_entry, argument_list, argument, annotation, parameter_list, parameter, expression_body, empty_body, native_body, getter, setter, plain_function, variable_list, variable, block, variable_statement, function_statement, expression_statement, if_statement, while_statement, do_statement, for_statement, for_in_statement, for_in_assignment, switch_statement, switch_case, try_statement, catch_clause, return_statement, break_statement, continue_statement, rethrow_statement, labeled_statement, constructor_declaration, factory_declaration, method_declaration, field_declaration, operator_declaration, field_initializer, super_initializer, redirection, class_declaration, mixin_declaration, type_alias, function_declaration, variable_declaration, library_directive, import_directive, export_directive, part_directive, part_of_directive, part_of_library_directive, show_combinator, hide_combinator, listed_name, error_node, unit}

-- the greater of two
abbrev pub higher : ℕ → ℕ → ℕ
higher a b = if nat_lt a b then b else a

abbrev mutual
  -- how many nodes that count lie on the longest way down from a node, itself among them; names and annotations hold none
  pub height : Tree → ℕ
  height (void_type at) = 1
  height (named_type at prefix name arguments nullable) = suc (height_of_part arguments)
  height (function_type at result type_parameters parameters optional nullable) = suc (higher (height_of_part result) (higher (heights type_parameters) (higher (heights parameters) (heights optional))))
  height (type_argument_list at types) = heights types
  height (type_parameter at name bound) = height_of_part bound
  height (parameter_type at written name) = height written
  height (integer_literal at word) = 1
  height (string_literal at strings) = suc (heights strings)
  height (boolean_literal at value) = 1
  height (null_literal at) = 1
  height (this_expression at) = 1
  height (super_expression at) = 1
  height (identifier at word) = 1
  height (parenthesis at inner) = suc (height inner)
  height (new_expression at written name arguments) = suc (higher (height written) (height arguments))
  height (list_literal at type_arguments elements) = suc (higher (height_of_part type_arguments) (heights elements))
  height (set_or_map_literal at type_arguments entries) = suc (higher (height_of_part type_arguments) (heights entries))
  height (function_expression at parameters body) = suc (higher (height parameters) (height body))
  height (generic_identifier at name type_arguments) = suc (height type_arguments)
  height (property_access at receiver null_aware name) = suc (height receiver)
  height (index_expression at receiver null_aware bracket index) = suc (higher (height receiver) (height index))
  height (null_check at operand) = suc (height operand)
  height (call at callee type_arguments arguments) = suc (higher (height callee) (higher (height_of_part type_arguments) (height arguments)))
  height (unary_expression at operator operand) = suc (height operand)
  height (postfix_expression at operator operand) = suc (height operand)
  height (binary_expression at operator left right) = suc (higher (height left) (height right))
  height (type_test at operand negated written) = suc (higher (height operand) (height written))
  height (type_cast at operand written) = suc (higher (height operand) (height written))
  height (conditional at condition then_value else_value) = suc (higher (height condition) (higher (height then_value) (height else_value)))
  height (assignment at operator target value) = suc (higher (height target) (height value))
  height (throw_expression at value) = suc (height value)
  height (cascade at receiver null_aware section) = suc (higher (height receiver) (height section))
  height (cascaded_name at name) = 0
  height (cascaded_index at bracket index) = height index
  height (simple_string at kind word) = 0
  height (interpolated_string at elements) = heights elements
  height (string_text at kind word) = 0
  height (string_interpolation at value) = height value
  height (map_entry at key value) = higher (height key) (height_of_part value)
  height (argument_list at arguments) = heights arguments
  height (argument at name value) = height value
  height (annotation at name) = 0
  height (parameter_list at parameters) = heights parameters
  height (parameter at metadata kind is_required is_final written is_field name default_value) = higher (height_of_part written) (height_of_part default_value)
  height (expression_body at value) = height value
  height (empty_body at) = 0
  height (native_body at) = 0
  height (getter at result name body) = higher (height_of_part result) (height body)
  height (setter at result name parameters body) = higher (height_of_part result) (higher (height parameters) (height body))
  height (plain_function at result name type_parameters parameters body) = higher (height_of_part result) (higher (heights type_parameters) (higher (height parameters) (height body)))
  height (variable_list at is_final written variables) = higher (height_of_part written) (heights variables)
  height (variable at name initializer) = height_of_part initializer
  height (block at statements) = suc (heights statements)
  height (variable_statement at variables) = suc (height variables)
  height (function_statement at function) = suc (height function)
  height (expression_statement at value) = suc (height_of_part value)
  height (if_statement at condition then_branch else_branch) = suc (higher (height condition) (higher (height then_branch) (height_of_part else_branch)))
  height (while_statement at condition body) = suc (higher (height condition) (height body))
  height (do_statement at body condition) = suc (higher (height body) (height condition))
  height (for_statement at initializer condition updates body) = suc (higher (height_of_part initializer) (higher (height_of_part condition) (higher (heights updates) (height body))))
  height (for_in_statement at is_final written name iterable body) = suc (higher (height_of_part written) (higher (height iterable) (height body)))
  height (for_in_assignment at name iterable body) = suc (higher (height iterable) (height body))
  height (switch_statement at value cases) = suc (higher (height value) (heights cases))
  height (switch_case at labels is_default statements) = higher (heights labels) (heights statements)
  height (try_statement at body handlers finally_block) = suc (higher (height body) (higher (heights handlers) (height_of_part finally_block)))
  height (catch_clause at written exception stack_trace body) = higher (height_of_part written) (height body)
  height (return_statement at value) = suc (height_of_part value)
  height (break_statement at label) = 1
  height (continue_statement at label) = 1
  height (rethrow_statement at) = 1
  height (labeled_statement at label body) = suc (height body)
  height (constructor_declaration at metadata name parameters initializers body) = suc (higher (height parameters) (higher (heights initializers) (height body)))
  height (factory_declaration at metadata name parameters body) = suc (higher (height parameters) (height body))
  height (method_declaration at metadata is_static function) = suc (height function)
  height (field_declaration at metadata is_static variables) = suc (height variables)
  height (operator_declaration at metadata result name parameters body) = suc (higher (height_of_part result) (higher (height parameters) (height body)))
  height (field_initializer at name value) = height value
  height (super_initializer at name arguments) = height arguments
  height (redirection at name arguments) = height arguments
  height (class_declaration at metadata is_abstract name type_parameters superclass mixins interfaces members) = suc (higher (heights type_parameters) (higher (height_of_part superclass) (higher (heights mixins) (higher (heights interfaces) (heights members)))))
  height (mixin_declaration at metadata name type_parameters constraints interfaces members) = suc (higher (heights type_parameters) (higher (heights constraints) (higher (heights interfaces) (heights members))))
  height (type_alias at metadata name written) = suc (height written)
  height (function_declaration at metadata function) = suc (height function)
  height (variable_declaration at metadata variables) = suc (height variables)
  height (library_directive at names) = 1
  height (import_directive at uri prefix combinators) = suc (height uri)
  height (export_directive at uri combinators) = suc (height uri)
  height (part_directive at uri) = suc (height uri)
  height (part_of_directive at uri) = suc (height uri)
  height (part_of_library_directive at names) = 1
  height (show_combinator at names) = 0
  height (hide_combinator at names) = 0
  height (listed_name at word) = 0
  height (error_node at) = 0
  height (unit at items) = suc (heights items)

  -- the greatest height of the trees of a list, 0 where there are none
  pub heights : Trees → ℕ
  heights no_more = 0
  heights (more first rest) = higher (height first) (heights rest)

  -- the height of a part, 0 where it is left out
  pub height_of_part : Part → ℕ
  height_of_part absent = 0
  height_of_part (present tree) = height tree

-- a node of at most that height
abbrev pub fits : ℕ → Tree → Bool
fits n t = not (nat_lt n (height t))
