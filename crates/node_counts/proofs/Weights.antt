-- What a tree may cost whose lists of statements are not read yet.
use Rattle.std.specs.Prelude.{ℕ, ◌+◌, ◌-◌, ◌≤◌}
use Rattle.std.proofs.Common.{arith}
use Rattle.dart_tree.specs.Tree.{Tree, Trees, Part, no_more, more, absent, present, void_type, named_type, function_type, type_argument_list, type_parameter, parameter_type, integer_literal, string_literal, boolean_literal, null_literal, this_expression, super_expression, identifier, parenthesis, new_expression, list_literal, set_or_map_literal, function_expression, generic_identifier, property_access, index_expression, null_check, call, unary_expression, postfix_expression, binary_expression, type_test, type_cast, conditional, assignment, throw_expression, cascade, cascaded_name, cascaded_index, simple_string, interpolated_string, string_text, string_interpolation, map_entry, argument_list, argument, annotation, parameter_list, parameter, expression_body, empty_body, native_body, getter, setter, plain_function, variable_list, variable, block, variable_statement, function_statement, expression_statement, if_statement, while_statement, do_statement, for_statement, for_in_statement, for_in_assignment, switch_statement, switch_case, try_statement, catch_clause, return_statement, break_statement, continue_statement, rethrow_statement, labeled_statement, constructor_declaration, factory_declaration, method_declaration, field_declaration, operator_declaration, field_initializer, super_initializer, redirection, class_declaration, mixin_declaration, type_alias, function_declaration, variable_declaration, library_directive, import_directive, export_directive, part_directive, part_of_directive, part_of_library_directive, show_combinator, hide_combinator, listed_name, error_node, unit}
use Rattle.dart_tree.specs.Numbers.{nodes_in, nodes_in_all, nodes_in_part}
use Rattle.dart_tree.specs.Places.{place_of}
use Rattle.dart_tree.specs.declared.places.Place.{Place}
use Rattle.unread_lists.specs.WithLists.{list_read, with_lists, all_with_lists, part_with_lists}

-- the cost of the place where an unread list stands: none of an empty one
abbrev pub list_weight : (Place → ℕ) → Trees → ℕ
list_weight c no_more = 0
list_weight c (more first rest) = c (place_of first)

abbrev mutual
  -- the nodes of a tree, where each list of statements counts what its place costs
  pub weight : (Place → ℕ) → Tree → ℕ
  weight c (void_type at) = 1
  weight c (named_type at prefix name arguments nullable) = 1 + weight_of_part c arguments
  weight c (function_type at result type_parameters parameters optional nullable) = 1 + weight_of_part c result + weight_of_all c type_parameters + weight_of_all c parameters + weight_of_all c optional
  weight c (type_argument_list at types) = 1 + weight_of_all c types
  weight c (type_parameter at name bound) = 2 + weight_of_part c bound
  weight c (parameter_type at written name) = 1 + weight c written
  weight c (integer_literal at word) = 1
  weight c (string_literal at strings) = 1 + weight_of_all c strings
  weight c (boolean_literal at value) = 1
  weight c (null_literal at) = 1
  weight c (this_expression at) = 1
  weight c (super_expression at) = 1
  weight c (identifier at word) = 1
  weight c (parenthesis at inner) = 1 + weight c inner
  weight c (new_expression at written name arguments) = 1 + weight c written + weight c arguments
  weight c (list_literal at type_arguments elements) = 1 + weight_of_part c type_arguments + weight_of_all c elements
  weight c (set_or_map_literal at type_arguments entries) = 1 + weight_of_part c type_arguments + weight_of_all c entries
  weight c (function_expression at parameters body) = 1 + weight c parameters + weight c body
  weight c (generic_identifier at name type_arguments) = 1 + weight c type_arguments
  weight c (property_access at receiver null_aware name) = 1 + weight c receiver
  weight c (index_expression at receiver null_aware bracket index) = 1 + weight c receiver + weight c index
  weight c (null_check at operand) = 1 + weight c operand
  weight c (call at callee type_arguments arguments) = 1 + weight c callee + weight_of_part c type_arguments + weight c arguments
  weight c (unary_expression at operator operand) = 1 + weight c operand
  weight c (postfix_expression at operator operand) = 1 + weight c operand
  weight c (binary_expression at operator left right) = 1 + weight c left + weight c right
  weight c (type_test at operand negated written) = 1 + weight c operand + weight c written
  weight c (type_cast at operand written) = 1 + weight c operand + weight c written
  weight c (conditional at condition then_value else_value) = 1 + weight c condition + weight c then_value + weight c else_value
  weight c (assignment at operator target value) = 1 + weight c target + weight c value
  weight c (throw_expression at value) = 1 + weight c value
  weight c (cascade at receiver null_aware section) = 1 + weight c receiver + weight c section
  weight c (cascaded_name at name) = 1
  weight c (cascaded_index at bracket index) = 1 + weight c index
  weight c (simple_string at kind word) = 1
  weight c (interpolated_string at elements) = 1 + weight_of_all c elements
  weight c (string_text at kind word) = 1
  weight c (string_interpolation at value) = 1 + weight c value
  weight c (map_entry at key value) = 1 + weight c key + weight_of_part c value
  weight c (argument_list at arguments) = 1 + weight_of_all c arguments
  weight c (argument at name value) = 1 + weight c value
  weight c (annotation at name) = 1
  weight c (parameter_list at parameters) = 1 + weight_of_all c parameters
  weight c (parameter at metadata kind is_required is_final written is_field name default_value) = 2 + nodes_in_all metadata + weight_of_part c written + weight_of_part c default_value
  weight c (expression_body at value) = 1 + weight c value
  weight c (empty_body at) = 1
  weight c (native_body at) = 1
  weight c (getter at result name body) = 2 + weight_of_part c result + weight c body
  weight c (setter at result name parameters body) = 2 + weight_of_part c result + weight c parameters + weight c body
  weight c (plain_function at result name type_parameters parameters body) = 2 + weight_of_part c result + weight_of_all c type_parameters + weight c parameters + weight c body
  weight c (variable_list at is_final written variables) = 1 + weight_of_part c written + weight_of_all c variables
  weight c (variable at name initializer) = 2 + weight_of_part c initializer
  weight c (block at statements) = 1 + list_weight c statements
  weight c (variable_statement at variables) = 1 + weight c variables
  weight c (function_statement at function) = 1 + weight c function
  weight c (expression_statement at value) = 1 + weight_of_part c value
  weight c (if_statement at condition then_branch else_branch) = 1 + weight c condition + weight c then_branch + weight_of_part c else_branch
  weight c (while_statement at condition body) = 1 + weight c condition + weight c body
  weight c (do_statement at body condition) = 1 + weight c body + weight c condition
  weight c (for_statement at initializer condition updates body) = 1 + weight_of_part c initializer + weight_of_part c condition + weight_of_all c updates + weight c body
  weight c (for_in_statement at is_final written name iterable body) = 2 + weight_of_part c written + weight c iterable + weight c body
  weight c (for_in_assignment at name iterable body) = 2 + weight c iterable + weight c body
  weight c (switch_statement at value cases) = 1 + weight c value + weight_of_all c cases
  weight c (switch_case at labels is_default statements) = 1 + weight_of_all c labels + list_weight c statements
  weight c (try_statement at body handlers finally_block) = 1 + weight c body + weight_of_all c handlers + weight_of_part c finally_block
  weight c (catch_clause at written exception stack_trace body) = 1 + weight_of_part c written + nodes_in_part exception + nodes_in_part stack_trace + weight c body
  weight c (return_statement at value) = 1 + weight_of_part c value
  weight c (break_statement at label) = 1
  weight c (continue_statement at label) = 1
  weight c (rethrow_statement at) = 1
  weight c (labeled_statement at label body) = 2 + weight c body
  weight c (constructor_declaration at metadata name parameters initializers body) = 2 + nodes_in_all metadata + weight c parameters + weight_of_all c initializers + weight c body
  weight c (factory_declaration at metadata name parameters body) = 2 + nodes_in_all metadata + weight c parameters + weight c body
  weight c (method_declaration at metadata is_static function) = 1 + nodes_in_all metadata + weight c function
  weight c (field_declaration at metadata is_static variables) = 1 + nodes_in_all metadata + weight c variables
  weight c (operator_declaration at metadata result name parameters body) = 2 + nodes_in_all metadata + weight_of_part c result + weight c parameters + weight c body
  weight c (field_initializer at name value) = 1 + weight c value
  weight c (super_initializer at name arguments) = 1 + weight c arguments
  weight c (redirection at name arguments) = 1 + weight c arguments
  weight c (class_declaration at metadata is_abstract name type_parameters superclass mixins interfaces members) = 2 + nodes_in_all metadata + weight_of_all c type_parameters + weight_of_part c superclass + weight_of_all c mixins + weight_of_all c interfaces + weight_of_all c members
  weight c (mixin_declaration at metadata name type_parameters constraints interfaces members) = 2 + nodes_in_all metadata + weight_of_all c type_parameters + weight_of_all c constraints + weight_of_all c interfaces + weight_of_all c members
  weight c (type_alias at metadata name written) = 2 + nodes_in_all metadata + weight c written
  weight c (function_declaration at metadata function) = 1 + nodes_in_all metadata + weight c function
  weight c (variable_declaration at metadata variables) = 1 + nodes_in_all metadata + weight c variables
  weight c (library_directive at names) = 1 + nodes_in_all names
  weight c (import_directive at uri prefix combinators) = 1 + weight c uri + nodes_in_part prefix + nodes_in_all combinators
  weight c (export_directive at uri combinators) = 1 + weight c uri + nodes_in_all combinators
  weight c (part_directive at uri) = 1 + weight c uri
  weight c (part_of_directive at uri) = 1 + weight c uri
  weight c (part_of_library_directive at names) = 1 + nodes_in_all names
  weight c (show_combinator at names) = 1 + nodes_in_all names
  weight c (hide_combinator at names) = 1 + nodes_in_all names
  weight c (listed_name at word) = 1
  weight c (error_node at) = 1
  weight c (unit at items) = 1 + weight_of_all c items

  -- so of the trees of a list
  pub weight_of_all : (Place → ℕ) → Trees → ℕ
  weight_of_all c no_more = 0
  weight_of_all c (more first rest) = weight c first + weight_of_all c rest

  -- and of a part
  pub weight_of_part : (Place → ℕ) → Part → ℕ
  weight_of_part c absent = 0
  weight_of_part c (present tree) = weight c tree

-- no list that is read has more nodes than its place costs
abbrev pub Affords : (Place → ℕ) → (ℕ → Place → Trees) → Type 0
Affords c lists = (n : ℕ) (at : Place) → nodes_in_all (lists n at) ≤ c at

list_counted : (c : Place → ℕ) (lists : ℕ → Place → Trees) → Affords c lists → (n : ℕ) (ts : Trees) → nodes_in_all (list_read lists n ts) ≤ list_weight c ts
list_counted c lists h n no_more = omega arith
list_counted c lists h n (more first rest) = h n (place_of first)

mutual
  -- a tree with its lists read has no more nodes than it weighs
  pub tree_counted : (c : Place → ℕ) (lists : ℕ → Place → Trees) → Affords c lists → (n : ℕ) (t : Tree) → nodes_in (with_lists lists n t) ≤ weight c t
  tree_counted c lists h n (void_type at) = omega arith
  tree_counted c lists h n (named_type at prefix name arguments nullable) = omega (arith, part_counted c lists h (n - 1) arguments)
  tree_counted c lists h n (function_type at result type_parameters parameters optional nullable) = omega (arith, part_counted c lists h (n - 1) result, all_counted c lists h (n - 1) type_parameters, all_counted c lists h (n - 1) parameters, all_counted c lists h (n - 1) optional)
  tree_counted c lists h n (type_argument_list at types) = omega (arith, all_counted c lists h n types)
  tree_counted c lists h n (type_parameter at name bound) = omega (arith, part_counted c lists h n bound)
  tree_counted c lists h n (parameter_type at written name) = omega (arith, tree_counted c lists h n written)
  tree_counted c lists h n (integer_literal at word) = omega arith
  tree_counted c lists h n (string_literal at strings) = omega (arith, all_counted c lists h (n - 1) strings)
  tree_counted c lists h n (boolean_literal at value) = omega arith
  tree_counted c lists h n (null_literal at) = omega arith
  tree_counted c lists h n (this_expression at) = omega arith
  tree_counted c lists h n (super_expression at) = omega arith
  tree_counted c lists h n (identifier at word) = omega arith
  tree_counted c lists h n (parenthesis at inner) = omega (arith, tree_counted c lists h (n - 1) inner)
  tree_counted c lists h n (new_expression at written name arguments) = omega (arith, tree_counted c lists h (n - 1) written, tree_counted c lists h (n - 1) arguments)
  tree_counted c lists h n (list_literal at type_arguments elements) = omega (arith, part_counted c lists h (n - 1) type_arguments, all_counted c lists h (n - 1) elements)
  tree_counted c lists h n (set_or_map_literal at type_arguments entries) = omega (arith, part_counted c lists h (n - 1) type_arguments, all_counted c lists h (n - 1) entries)
  tree_counted c lists h n (function_expression at parameters body) = omega (arith, tree_counted c lists h (n - 1) parameters, tree_counted c lists h (n - 1) body)
  tree_counted c lists h n (generic_identifier at name type_arguments) = omega (arith, tree_counted c lists h (n - 1) type_arguments)
  tree_counted c lists h n (property_access at receiver null_aware name) = omega (arith, tree_counted c lists h (n - 1) receiver)
  tree_counted c lists h n (index_expression at receiver null_aware bracket index) = omega (arith, tree_counted c lists h (n - 1) receiver, tree_counted c lists h (n - 1) index)
  tree_counted c lists h n (null_check at operand) = omega (arith, tree_counted c lists h (n - 1) operand)
  tree_counted c lists h n (call at callee type_arguments arguments) = omega (arith, tree_counted c lists h (n - 1) callee, part_counted c lists h (n - 1) type_arguments, tree_counted c lists h (n - 1) arguments)
  tree_counted c lists h n (unary_expression at operator operand) = omega (arith, tree_counted c lists h (n - 1) operand)
  tree_counted c lists h n (postfix_expression at operator operand) = omega (arith, tree_counted c lists h (n - 1) operand)
  tree_counted c lists h n (binary_expression at operator left right) = omega (arith, tree_counted c lists h (n - 1) left, tree_counted c lists h (n - 1) right)
  tree_counted c lists h n (type_test at operand negated written) = omega (arith, tree_counted c lists h (n - 1) operand, tree_counted c lists h (n - 1) written)
  tree_counted c lists h n (type_cast at operand written) = omega (arith, tree_counted c lists h (n - 1) operand, tree_counted c lists h (n - 1) written)
  tree_counted c lists h n (conditional at condition then_value else_value) = omega (arith, tree_counted c lists h (n - 1) condition, tree_counted c lists h (n - 1) then_value, tree_counted c lists h (n - 1) else_value)
  tree_counted c lists h n (assignment at operator target value) = omega (arith, tree_counted c lists h (n - 1) target, tree_counted c lists h (n - 1) value)
  tree_counted c lists h n (throw_expression at value) = omega (arith, tree_counted c lists h (n - 1) value)
  tree_counted c lists h n (cascade at receiver null_aware section) = omega (arith, tree_counted c lists h (n - 1) receiver, tree_counted c lists h (n - 1) section)
  tree_counted c lists h n (cascaded_name at name) = omega arith
  tree_counted c lists h n (cascaded_index at bracket index) = omega (arith, tree_counted c lists h n index)
  tree_counted c lists h n (simple_string at kind word) = omega arith
  tree_counted c lists h n (interpolated_string at elements) = omega (arith, all_counted c lists h n elements)
  tree_counted c lists h n (string_text at kind word) = omega arith
  tree_counted c lists h n (string_interpolation at value) = omega (arith, tree_counted c lists h n value)
  tree_counted c lists h n (map_entry at key value) = omega (arith, tree_counted c lists h n key, part_counted c lists h n value)
  tree_counted c lists h n (argument_list at arguments) = omega (arith, all_counted c lists h n arguments)
  tree_counted c lists h n (argument at name value) = omega (arith, tree_counted c lists h n value)
  tree_counted c lists h n (annotation at name) = omega arith
  tree_counted c lists h n (parameter_list at parameters) = omega (arith, all_counted c lists h n parameters)
  tree_counted c lists h n (parameter at metadata kind is_required is_final written is_field name default_value) = omega (arith, part_counted c lists h n written, part_counted c lists h n default_value)
  tree_counted c lists h n (expression_body at value) = omega (arith, tree_counted c lists h n value)
  tree_counted c lists h n (empty_body at) = omega arith
  tree_counted c lists h n (native_body at) = omega arith
  tree_counted c lists h n (getter at result name body) = omega (arith, part_counted c lists h n result, tree_counted c lists h n body)
  tree_counted c lists h n (setter at result name parameters body) = omega (arith, part_counted c lists h n result, tree_counted c lists h n parameters, tree_counted c lists h n body)
  tree_counted c lists h n (plain_function at result name type_parameters parameters body) = omega (arith, part_counted c lists h n result, all_counted c lists h n type_parameters, tree_counted c lists h n parameters, tree_counted c lists h n body)
  tree_counted c lists h n (variable_list at is_final written variables) = omega (arith, part_counted c lists h n written, all_counted c lists h n variables)
  tree_counted c lists h n (variable at name initializer) = omega (arith, part_counted c lists h n initializer)
  tree_counted c lists h n (block at statements) = omega (arith, list_counted c lists h (n - 1) statements)
  tree_counted c lists h n (variable_statement at variables) = omega (arith, tree_counted c lists h (n - 1) variables)
  tree_counted c lists h n (function_statement at function) = omega (arith, tree_counted c lists h (n - 1) function)
  tree_counted c lists h n (expression_statement at value) = omega (arith, part_counted c lists h (n - 1) value)
  tree_counted c lists h n (if_statement at condition then_branch else_branch) = omega (arith, tree_counted c lists h (n - 1) condition, tree_counted c lists h (n - 1) then_branch, part_counted c lists h (n - 1) else_branch)
  tree_counted c lists h n (while_statement at condition body) = omega (arith, tree_counted c lists h (n - 1) condition, tree_counted c lists h (n - 1) body)
  tree_counted c lists h n (do_statement at body condition) = omega (arith, tree_counted c lists h (n - 1) body, tree_counted c lists h (n - 1) condition)
  tree_counted c lists h n (for_statement at initializer condition updates body) = omega (arith, part_counted c lists h (n - 1) initializer, part_counted c lists h (n - 1) condition, all_counted c lists h (n - 1) updates, tree_counted c lists h (n - 1) body)
  tree_counted c lists h n (for_in_statement at is_final written name iterable body) = omega (arith, part_counted c lists h (n - 1) written, tree_counted c lists h (n - 1) iterable, tree_counted c lists h (n - 1) body)
  tree_counted c lists h n (for_in_assignment at name iterable body) = omega (arith, tree_counted c lists h (n - 1) iterable, tree_counted c lists h (n - 1) body)
  tree_counted c lists h n (switch_statement at value cases) = omega (arith, tree_counted c lists h (n - 1) value, all_counted c lists h (n - 1) cases)
  tree_counted c lists h n (switch_case at labels is_default statements) = omega (arith, all_counted c lists h n labels, list_counted c lists h n statements)
  tree_counted c lists h n (try_statement at body handlers finally_block) = omega (arith, tree_counted c lists h (n - 1) body, all_counted c lists h (n - 1) handlers, part_counted c lists h (n - 1) finally_block)
  tree_counted c lists h n (catch_clause at written exception stack_trace body) = omega (arith, part_counted c lists h n written, tree_counted c lists h n body)
  tree_counted c lists h n (return_statement at value) = omega (arith, part_counted c lists h (n - 1) value)
  tree_counted c lists h n (break_statement at label) = omega arith
  tree_counted c lists h n (continue_statement at label) = omega arith
  tree_counted c lists h n (rethrow_statement at) = omega arith
  tree_counted c lists h n (labeled_statement at label body) = omega (arith, tree_counted c lists h (n - 1) body)
  tree_counted c lists h n (constructor_declaration at metadata name parameters initializers body) = omega (arith, tree_counted c lists h (n - 1) parameters, all_counted c lists h (n - 1) initializers, tree_counted c lists h (n - 1) body)
  tree_counted c lists h n (factory_declaration at metadata name parameters body) = omega (arith, tree_counted c lists h (n - 1) parameters, tree_counted c lists h (n - 1) body)
  tree_counted c lists h n (method_declaration at metadata is_static function) = omega (arith, tree_counted c lists h (n - 1) function)
  tree_counted c lists h n (field_declaration at metadata is_static variables) = omega (arith, tree_counted c lists h (n - 1) variables)
  tree_counted c lists h n (operator_declaration at metadata result name parameters body) = omega (arith, part_counted c lists h (n - 1) result, tree_counted c lists h (n - 1) parameters, tree_counted c lists h (n - 1) body)
  tree_counted c lists h n (field_initializer at name value) = omega (arith, tree_counted c lists h n value)
  tree_counted c lists h n (super_initializer at name arguments) = omega (arith, tree_counted c lists h n arguments)
  tree_counted c lists h n (redirection at name arguments) = omega (arith, tree_counted c lists h n arguments)
  tree_counted c lists h n (class_declaration at metadata is_abstract name type_parameters superclass mixins interfaces members) = omega (arith, all_counted c lists h (n - 1) type_parameters, part_counted c lists h (n - 1) superclass, all_counted c lists h (n - 1) mixins, all_counted c lists h (n - 1) interfaces, all_counted c lists h (n - 1) members)
  tree_counted c lists h n (mixin_declaration at metadata name type_parameters constraints interfaces members) = omega (arith, all_counted c lists h (n - 1) type_parameters, all_counted c lists h (n - 1) constraints, all_counted c lists h (n - 1) interfaces, all_counted c lists h (n - 1) members)
  tree_counted c lists h n (type_alias at metadata name written) = omega (arith, tree_counted c lists h (n - 1) written)
  tree_counted c lists h n (function_declaration at metadata function) = omega (arith, tree_counted c lists h (n - 1) function)
  tree_counted c lists h n (variable_declaration at metadata variables) = omega (arith, tree_counted c lists h (n - 1) variables)
  tree_counted c lists h n (library_directive at names) = omega arith
  tree_counted c lists h n (import_directive at uri prefix combinators) = omega (arith, tree_counted c lists h (n - 1) uri)
  tree_counted c lists h n (export_directive at uri combinators) = omega (arith, tree_counted c lists h (n - 1) uri)
  tree_counted c lists h n (part_directive at uri) = omega (arith, tree_counted c lists h (n - 1) uri)
  tree_counted c lists h n (part_of_directive at uri) = omega (arith, tree_counted c lists h (n - 1) uri)
  tree_counted c lists h n (part_of_library_directive at names) = omega arith
  tree_counted c lists h n (show_combinator at names) = omega arith
  tree_counted c lists h n (hide_combinator at names) = omega arith
  tree_counted c lists h n (listed_name at word) = omega arith
  tree_counted c lists h n (error_node at) = omega arith
  tree_counted c lists h n (unit at items) = omega (arith, all_counted c lists h (n - 1) items)

  all_counted : (c : Place → ℕ) (lists : ℕ → Place → Trees) → Affords c lists → (n : ℕ) (ts : Trees) → nodes_in_all (all_with_lists lists n ts) ≤ weight_of_all c ts
  all_counted c lists h n no_more = omega arith
  all_counted c lists h n (more first rest) = omega (arith, tree_counted c lists h n first, all_counted c lists h n rest)

  part_counted : (c : Place → ℕ) (lists : ℕ → Place → Trees) → Affords c lists → (n : ℕ) (p : Part) → nodes_in_part (part_with_lists lists n p) ≤ weight_of_part c p
  part_counted c lists h n absent = omega arith
  part_counted c lists h n (present tree) = tree_counted c lists h n tree
