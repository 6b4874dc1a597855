-- Trees whose lists of statements are read where they stand.
use Rattle.std.specs.Prelude.{ℕ, ◌-◌}
use Rattle.dart_tree.specs.Tree.{Tree, Trees, Part, no_more, more, absent, present, void_type, named_type, function_type, type_argument_list, type_parameter, parameter_type, integer_literal, string_literal, boolean_literal, null_literal, this_expression, super_expression, identifier, parenthesis, new_expression, list_literal, set_or_map_literal, function_expression, generic_identifier, property_access, index_expression, null_check, call, unary_expression, postfix_expression, binary_expression, type_test, type_cast, conditional, assignment, throw_expression, cascade, cascaded_name, cascaded_index, simple_string, interpolated_string, string_text, string_interpolation, map_entry, argument_list, argument, annotation, parameter_list, parameter, expression_body, empty_body, native_body, getter, setter, plain_function, variable_list, variable, block, variable_statement, function_statement, expression_statement, if_statement, while_statement, do_statement, for_statement, for_in_statement, for_in_assignment, switch_statement, switch_case, try_statement, catch_clause, return_statement, break_statement, continue_statement, rethrow_statement, labeled_statement, constructor_declaration, factory_declaration, method_declaration, field_declaration, operator_declaration, field_initializer, super_initializer, redirection, class_declaration, mixin_declaration, type_alias, function_declaration, variable_declaration, library_directive, import_directive, export_directive, part_directive, part_of_directive, part_of_library_directive, show_combinator, hide_combinator, listed_name, error_node, unit}
use Rattle.dart_tree.specs.Places.{place_of}
use Rattle.dart_tree.specs.declared.places.Place.{Place}

-- a list of statements, read where so many nodes may lie on a way down from each: what stands for it stands where its tokens do, and an empty one stays as it is
abbrev pub list_read : (ℕ → Place → Trees) → ℕ → Trees → Trees
list_read lists n no_more = no_more
list_read lists n (more first rest) = lists n (place_of first)

abbrev mutual
  -- the same tree with each list of statements in it read, where `n` nodes may lie on a way down from it, itself among them if it counts: its parts have a room of
  -- one fewer then. Lists stand in blocks and in the cases of a switch. A block stands wherever an expression does, as a closure's: in a string, and in a type too,
  -- where a parameter of a function type has a default value. Annotations and names hold none
  pub with_lists : (ℕ → Place → Trees) → ℕ → Tree → Tree
  with_lists lists n (void_type at) = void_type at
  with_lists lists n (named_type at prefix name arguments nullable) = named_type at prefix name (part_with_lists lists (n - 1) arguments) nullable
  with_lists lists n (function_type at result type_parameters parameters optional nullable) = function_type at (part_with_lists lists (n - 1) result) (all_with_lists lists (n - 1) type_parameters) (all_with_lists lists (n - 1) parameters) (all_with_lists lists (n - 1) optional) nullable
  with_lists lists n (type_argument_list at types) = type_argument_list at (all_with_lists lists n types)
  with_lists lists n (type_parameter at name bound) = type_parameter at name (part_with_lists lists n bound)
  with_lists lists n (parameter_type at written name) = parameter_type at (with_lists lists n written) name
  with_lists lists n (integer_literal at word) = integer_literal at word
  with_lists lists n (string_literal at strings) = string_literal at (all_with_lists lists (n - 1) strings)
  with_lists lists n (boolean_literal at value) = boolean_literal at value
  with_lists lists n (null_literal at) = null_literal at
  with_lists lists n (this_expression at) = this_expression at
  with_lists lists n (super_expression at) = super_expression at
  with_lists lists n (identifier at word) = identifier at word
  with_lists lists n (parenthesis at inner) = parenthesis at (with_lists lists (n - 1) inner)
  with_lists lists n (new_expression at written name arguments) = new_expression at (with_lists lists (n - 1) written) name (with_lists lists (n - 1) arguments)
  with_lists lists n (list_literal at type_arguments elements) = list_literal at (part_with_lists lists (n - 1) type_arguments) (all_with_lists lists (n - 1) elements)
  with_lists lists n (set_or_map_literal at type_arguments entries) = set_or_map_literal at (part_with_lists lists (n - 1) type_arguments) (all_with_lists lists (n - 1) entries)
  with_lists lists n (function_expression at parameters body) = function_expression at (with_lists lists (n - 1) parameters) (with_lists lists (n - 1) body)
  with_lists lists n (generic_identifier at name type_arguments) = generic_identifier at name (with_lists lists (n - 1) type_arguments)
  with_lists lists n (property_access at receiver null_aware name) = property_access at (with_lists lists (n - 1) receiver) null_aware name
  with_lists lists n (index_expression at receiver null_aware bracket index) = index_expression at (with_lists lists (n - 1) receiver) null_aware bracket (with_lists lists (n - 1) index)
  with_lists lists n (null_check at operand) = null_check at (with_lists lists (n - 1) operand)
  with_lists lists n (call at callee type_arguments arguments) = call at (with_lists lists (n - 1) callee) (part_with_lists lists (n - 1) type_arguments) (with_lists lists (n - 1) arguments)
  with_lists lists n (unary_expression at operator operand) = unary_expression at operator (with_lists lists (n - 1) operand)
  with_lists lists n (postfix_expression at operator operand) = postfix_expression at operator (with_lists lists (n - 1) operand)
  with_lists lists n (binary_expression at operator left right) = binary_expression at operator (with_lists lists (n - 1) left) (with_lists lists (n - 1) right)
  with_lists lists n (type_test at operand negated written) = type_test at (with_lists lists (n - 1) operand) negated (with_lists lists (n - 1) written)
  with_lists lists n (type_cast at operand written) = type_cast at (with_lists lists (n - 1) operand) (with_lists lists (n - 1) written)
  with_lists lists n (conditional at condition then_value else_value) = conditional at (with_lists lists (n - 1) condition) (with_lists lists (n - 1) then_value) (with_lists lists (n - 1) else_value)
  with_lists lists n (assignment at operator target value) = assignment at operator (with_lists lists (n - 1) target) (with_lists lists (n - 1) value)
  with_lists lists n (throw_expression at value) = throw_expression at (with_lists lists (n - 1) value)
  with_lists lists n (cascade at receiver null_aware section) = cascade at (with_lists lists (n - 1) receiver) null_aware (with_lists lists (n - 1) section)
  with_lists lists n (cascaded_name at name) = cascaded_name at name
  with_lists lists n (cascaded_index at bracket index) = cascaded_index at bracket (with_lists lists n index)
  with_lists lists n (simple_string at kind word) = simple_string at kind word
  with_lists lists n (interpolated_string at elements) = interpolated_string at (all_with_lists lists n elements)
  with_lists lists n (string_text at kind word) = string_text at kind word
  with_lists lists n (string_interpolation at value) = string_interpolation at (with_lists lists n value)
  with_lists lists n (map_entry at key value) = map_entry at (with_lists lists n key) (part_with_lists lists n value)
  with_lists lists n (argument_list at arguments) = argument_list at (all_with_lists lists n arguments)
  with_lists lists n (argument at name value) = argument at name (with_lists lists n value)
  with_lists lists n (annotation at name) = annotation at name
  with_lists lists n (parameter_list at parameters) = parameter_list at (all_with_lists lists n parameters)
  with_lists lists n (parameter at metadata kind is_required is_final written is_field name default_value) = parameter at metadata kind is_required is_final (part_with_lists lists n written) is_field name (part_with_lists lists n default_value)
  with_lists lists n (expression_body at value) = expression_body at (with_lists lists n value)
  with_lists lists n (empty_body at) = empty_body at
  with_lists lists n (native_body at) = native_body at
  with_lists lists n (getter at result name body) = getter at (part_with_lists lists n result) name (with_lists lists n body)
  with_lists lists n (setter at result name parameters body) = setter at (part_with_lists lists n result) name (with_lists lists n parameters) (with_lists lists n body)
  with_lists lists n (plain_function at result name type_parameters parameters body) = plain_function at (part_with_lists lists n result) name (all_with_lists lists n type_parameters) (with_lists lists n parameters) (with_lists lists n body)
  with_lists lists n (variable_list at is_final written variables) = variable_list at is_final (part_with_lists lists n written) (all_with_lists lists n variables)
  with_lists lists n (variable at name initializer) = variable at name (part_with_lists lists n initializer)
  with_lists lists n (block at statements) = block at (list_read lists (n - 1) statements)
  with_lists lists n (variable_statement at variables) = variable_statement at (with_lists lists (n - 1) variables)
  with_lists lists n (function_statement at function) = function_statement at (with_lists lists (n - 1) function)
  with_lists lists n (expression_statement at value) = expression_statement at (part_with_lists lists (n - 1) value)
  with_lists lists n (if_statement at condition then_branch else_branch) = if_statement at (with_lists lists (n - 1) condition) (with_lists lists (n - 1) then_branch) (part_with_lists lists (n - 1) else_branch)
  with_lists lists n (while_statement at condition body) = while_statement at (with_lists lists (n - 1) condition) (with_lists lists (n - 1) body)
  with_lists lists n (do_statement at body condition) = do_statement at (with_lists lists (n - 1) body) (with_lists lists (n - 1) condition)
  with_lists lists n (for_statement at initializer condition updates body) = for_statement at (part_with_lists lists (n - 1) initializer) (part_with_lists lists (n - 1) condition) (all_with_lists lists (n - 1) updates) (with_lists lists (n - 1) body)
  with_lists lists n (for_in_statement at is_final written name iterable body) = for_in_statement at is_final (part_with_lists lists (n - 1) written) name (with_lists lists (n - 1) iterable) (with_lists lists (n - 1) body)
  with_lists lists n (for_in_assignment at name iterable body) = for_in_assignment at name (with_lists lists (n - 1) iterable) (with_lists lists (n - 1) body)
  with_lists lists n (switch_statement at value cases) = switch_statement at (with_lists lists (n - 1) value) (all_with_lists lists (n - 1) cases)
  with_lists lists n (switch_case at labels is_default statements) = switch_case at (all_with_lists lists n labels) is_default (list_read lists n statements)
  with_lists lists n (try_statement at body handlers finally_block) = try_statement at (with_lists lists (n - 1) body) (all_with_lists lists (n - 1) handlers) (part_with_lists lists (n - 1) finally_block)
  with_lists lists n (catch_clause at written exception stack_trace body) = catch_clause at (part_with_lists lists n written) exception stack_trace (with_lists lists n body)
  with_lists lists n (return_statement at value) = return_statement at (part_with_lists lists (n - 1) value)
  with_lists lists n (break_statement at label) = break_statement at label
  with_lists lists n (continue_statement at label) = continue_statement at label
  with_lists lists n (rethrow_statement at) = rethrow_statement at
  with_lists lists n (labeled_statement at label body) = labeled_statement at label (with_lists lists (n - 1) body)
  with_lists lists n (constructor_declaration at metadata name parameters initializers body) = constructor_declaration at metadata name (with_lists lists (n - 1) parameters) (all_with_lists lists (n - 1) initializers) (with_lists lists (n - 1) body)
  with_lists lists n (factory_declaration at metadata name parameters body) = factory_declaration at metadata name (with_lists lists (n - 1) parameters) (with_lists lists (n - 1) body)
  with_lists lists n (method_declaration at metadata is_static function) = method_declaration at metadata is_static (with_lists lists (n - 1) function)
  with_lists lists n (field_declaration at metadata is_static variables) = field_declaration at metadata is_static (with_lists lists (n - 1) variables)
  with_lists lists n (operator_declaration at metadata result name parameters body) = operator_declaration at metadata (part_with_lists lists (n - 1) result) name (with_lists lists (n - 1) parameters) (with_lists lists (n - 1) body)
  with_lists lists n (field_initializer at name value) = field_initializer at name (with_lists lists n value)
  with_lists lists n (super_initializer at name arguments) = super_initializer at name (with_lists lists n arguments)
  with_lists lists n (redirection at name arguments) = redirection at name (with_lists lists n arguments)
  with_lists lists n (class_declaration at metadata is_abstract name type_parameters superclass mixins interfaces members) = class_declaration at metadata is_abstract name (all_with_lists lists (n - 1) type_parameters) (part_with_lists lists (n - 1) superclass) (all_with_lists lists (n - 1) mixins) (all_with_lists lists (n - 1) interfaces) (all_with_lists lists (n - 1) members)
  with_lists lists n (mixin_declaration at metadata name type_parameters constraints interfaces members) = mixin_declaration at metadata name (all_with_lists lists (n - 1) type_parameters) (all_with_lists lists (n - 1) constraints) (all_with_lists lists (n - 1) interfaces) (all_with_lists lists (n - 1) members)
  with_lists lists n (type_alias at metadata name written) = type_alias at metadata name (with_lists lists (n - 1) written)
  with_lists lists n (function_declaration at metadata function) = function_declaration at metadata (with_lists lists (n - 1) function)
  with_lists lists n (variable_declaration at metadata variables) = variable_declaration at metadata (with_lists lists (n - 1) variables)
  with_lists lists n (library_directive at names) = library_directive at names
  with_lists lists n (import_directive at uri prefix combinators) = import_directive at (with_lists lists (n - 1) uri) prefix combinators
  with_lists lists n (export_directive at uri combinators) = export_directive at (with_lists lists (n - 1) uri) combinators
  with_lists lists n (part_directive at uri) = part_directive at (with_lists lists (n - 1) uri)
  with_lists lists n (part_of_directive at uri) = part_of_directive at (with_lists lists (n - 1) uri)
  with_lists lists n (part_of_library_directive at names) = part_of_library_directive at names
  with_lists lists n (show_combinator at names) = show_combinator at names
  with_lists lists n (hide_combinator at names) = hide_combinator at names
  with_lists lists n (listed_name at word) = listed_name at word
  with_lists lists n (error_node at) = error_node at
  with_lists lists n (unit at items) = unit at (all_with_lists lists (n - 1) items)

  -- so of the trees of a list
  pub all_with_lists : (ℕ → Place → Trees) → ℕ → Trees → Trees
  all_with_lists lists n no_more = no_more
  all_with_lists lists n (more first rest) = more (with_lists lists n first) (all_with_lists lists n rest)

  -- and of a part
  pub part_with_lists : (ℕ → Place → Trees) → ℕ → Part → Part
  part_with_lists lists n absent = absent
  part_with_lists lists n (present tree) = present (with_lists lists n tree)
