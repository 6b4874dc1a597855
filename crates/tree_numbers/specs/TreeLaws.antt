-- Neither the height of a tree nor what is left of it with ranges and numbers aside depends on its numbers.
use Rattle.std.specs.Prelude.{◌≡◌, ℕ, ◌+◌, refl}
use Rattle.std.proofs.Common.{ap}
use Rattle.dart_tree.specs.Tree.{Tree, Trees, Part, no_more, more, absent, present, void_type, named_type, function_type, type_argument_list, type_parameter, parameter_type, integer_literal, string_literal, boolean_literal, null_literal, this_expression, super_expression, identifier, parenthesis, new_expression, list_literal, set_or_map_literal, function_expression, generic_identifier, property_access, index_expression, null_check, call, unary_expression, postfix_expression, binary_expression, type_test, type_cast, conditional, assignment, throw_expression, cascade, cascaded_name, cascaded_index, simple_string, interpolated_string, string_text, string_interpolation, map_entry, argument_list, argument, annotation, parameter_list, parameter, expression_body, empty_body, native_body, getter, setter, plain_function, variable_list, variable, block, variable_statement, function_statement, expression_statement, if_statement, while_statement, do_statement, for_statement, for_in_statement, for_in_assignment, switch_statement, switch_case, try_statement, catch_clause, return_statement, break_statement, continue_statement, rethrow_statement, labeled_statement, constructor_declaration, factory_declaration, method_declaration, field_declaration, operator_declaration, field_initializer, super_initializer, redirection, class_declaration, mixin_declaration, type_alias, function_declaration, variable_declaration, library_directive, import_directive, export_directive, part_directive, part_of_directive, part_of_library_directive, show_combinator, hide_combinator, listed_name, error_node, unit}
use Rattle.dart_tree.specs.Numbers.{nodes_in, nodes_in_all, nodes_in_part, numbered, all_numbered, part_numbered}
use Rattle.dart_tree.specs.Heights.{height, heights, height_of_part}
use Rattle.dart_tree.specs.Bare.{bare_with, all_bare_with, part_bare_with}

mutual
  -- a numbered tree is as high as before
  pub height-numbered : (n : ℕ) (t : Tree) → height (numbered n t) ≡ height t
  height-numbered n (void_type at) = refl
  height-numbered n (named_type at prefix name arguments nullable) = rw (height_of_part-numbered (n + 1) arguments) refl
  height-numbered n (function_type at result type_parameters parameters optional nullable) = rw (
    height_of_part-numbered (n + 1) result,
    heights-numbered (n + 1 + nodes_in_part result) type_parameters,
    heights-numbered (n + 1 + nodes_in_part result + nodes_in_all type_parameters) parameters,
    heights-numbered (n + 1 + nodes_in_part result + nodes_in_all type_parameters + nodes_in_all parameters) optional,
  ) refl
  height-numbered n (type_argument_list at types) = rw (heights-numbered (n + 1) types) refl
  height-numbered n (type_parameter at name bound) = rw (height_of_part-numbered (n + 1 + 1) bound) refl
  height-numbered n (parameter_type at written name) = rw (height-numbered (n + 1) written) refl
  height-numbered n (integer_literal at word) = refl
  height-numbered n (string_literal at strings) = rw (heights-numbered (n + 1) strings) refl
  height-numbered n (boolean_literal at value) = refl
  height-numbered n (null_literal at) = refl
  height-numbered n (this_expression at) = refl
  height-numbered n (super_expression at) = refl
  height-numbered n (identifier at word) = refl
  height-numbered n (parenthesis at inner) = rw (height-numbered (n + 1) inner) refl
  height-numbered n (new_expression at written name arguments) = rw (height-numbered (n + 1) written, height-numbered (n + 1 + nodes_in written) arguments) refl
  height-numbered n (list_literal at type_arguments elements) = rw (height_of_part-numbered (n + 1) type_arguments, heights-numbered (n + 1 + nodes_in_part type_arguments) elements) refl
  height-numbered n (set_or_map_literal at type_arguments entries) = rw (height_of_part-numbered (n + 1) type_arguments, heights-numbered (n + 1 + nodes_in_part type_arguments) entries) refl
  height-numbered n (function_expression at parameters body) = rw (height-numbered (n + 1) parameters, height-numbered (n + 1 + nodes_in parameters) body) refl
  height-numbered n (generic_identifier at name type_arguments) = rw (height-numbered (n + 1) type_arguments) refl
  height-numbered n (property_access at receiver null_aware name) = rw (height-numbered (n + 1) receiver) refl
  height-numbered n (index_expression at receiver null_aware bracket index) = rw (height-numbered (n + 1) receiver, height-numbered (n + 1 + nodes_in receiver) index) refl
  height-numbered n (null_check at operand) = rw (height-numbered (n + 1) operand) refl
  height-numbered n (call at callee type_arguments arguments) = rw (
    height-numbered (n + 1) callee,
    height_of_part-numbered (n + 1 + nodes_in callee) type_arguments,
    height-numbered (n + 1 + nodes_in callee + nodes_in_part type_arguments) arguments,
  ) refl
  height-numbered n (unary_expression at operator operand) = rw (height-numbered (n + 1) operand) refl
  height-numbered n (postfix_expression at operator operand) = rw (height-numbered (n + 1) operand) refl
  height-numbered n (binary_expression at operator left right) = rw (height-numbered (n + 1) left, height-numbered (n + 1 + nodes_in left) right) refl
  height-numbered n (type_test at operand negated written) = rw (height-numbered (n + 1) operand, height-numbered (n + 1 + nodes_in operand) written) refl
  height-numbered n (type_cast at operand written) = rw (height-numbered (n + 1) operand, height-numbered (n + 1 + nodes_in operand) written) refl
  height-numbered n (conditional at condition then_value else_value) = rw (
    height-numbered (n + 1) condition,
    height-numbered (n + 1 + nodes_in condition) then_value,
    height-numbered (n + 1 + nodes_in condition + nodes_in then_value) else_value,
  ) refl
  height-numbered n (assignment at operator target value) = rw (height-numbered (n + 1) target, height-numbered (n + 1 + nodes_in target) value) refl
  height-numbered n (throw_expression at value) = rw (height-numbered (n + 1) value) refl
  height-numbered n (cascade at receiver null_aware section) = rw (height-numbered (n + 1) receiver, height-numbered (n + 1 + nodes_in receiver) section) refl
  height-numbered n (cascaded_name at name) = refl
  height-numbered n (cascaded_index at bracket index) = rw (height-numbered (n + 1) index) refl
  height-numbered n (simple_string at kind word) = refl
  height-numbered n (interpolated_string at elements) = rw (heights-numbered (n + 1) elements) refl
  height-numbered n (string_text at kind word) = refl
  height-numbered n (string_interpolation at value) = rw (height-numbered (n + 1) value) refl
  height-numbered n (map_entry at key value) = rw (height-numbered (n + 1) key, height_of_part-numbered (n + 1 + nodes_in key) value) refl
  height-numbered n (argument_list at arguments) = rw (heights-numbered (n + 1) arguments) refl
  height-numbered n (argument at name value) = rw (height-numbered (n + 1) value) refl
  height-numbered n (annotation at name) = refl
  height-numbered n (parameter_list at parameters) = rw (heights-numbered (n + 1) parameters) refl
  height-numbered n (parameter at metadata kind is_required is_final written is_field name default_value) = rw (
    height_of_part-numbered (n + 1 + nodes_in_all metadata) written,
    height_of_part-numbered (n + 1 + nodes_in_all metadata + nodes_in_part written + 1) default_value,
  ) refl
  height-numbered n (expression_body at value) = rw (height-numbered (n + 1) value) refl
  height-numbered n (empty_body at) = refl
  height-numbered n (native_body at) = refl
  height-numbered n (getter at result name body) = rw (height_of_part-numbered (n + 1) result, height-numbered (n + 1 + nodes_in_part result + 1) body) refl
  height-numbered n (setter at result name parameters body) = rw (
    height_of_part-numbered (n + 1) result,
    height-numbered (n + 1 + nodes_in_part result + 1) parameters,
    height-numbered (n + 1 + nodes_in_part result + 1 + nodes_in parameters) body,
  ) refl
  height-numbered n (plain_function at result name type_parameters parameters body) = rw (
    height_of_part-numbered (n + 1) result,
    heights-numbered (n + 1 + nodes_in_part result + 1) type_parameters,
    height-numbered (n + 1 + nodes_in_part result + 1 + nodes_in_all type_parameters) parameters,
    height-numbered (n + 1 + nodes_in_part result + 1 + nodes_in_all type_parameters + nodes_in parameters) body,
  ) refl
  height-numbered n (variable_list at is_final written variables) = rw (height_of_part-numbered (n + 1) written, heights-numbered (n + 1 + nodes_in_part written) variables) refl
  height-numbered n (variable at name initializer) = rw (height_of_part-numbered (n + 1 + 1) initializer) refl
  height-numbered n (block at statements) = rw (heights-numbered (n + 1) statements) refl
  height-numbered n (variable_statement at variables) = rw (height-numbered (n + 1) variables) refl
  height-numbered n (function_statement at function) = rw (height-numbered (n + 1) function) refl
  height-numbered n (expression_statement at value) = rw (height_of_part-numbered (n + 1) value) refl
  height-numbered n (if_statement at condition then_branch else_branch) = rw (
    height-numbered (n + 1) condition,
    height-numbered (n + 1 + nodes_in condition) then_branch,
    height_of_part-numbered (n + 1 + nodes_in condition + nodes_in then_branch) else_branch,
  ) refl
  height-numbered n (while_statement at condition body) = rw (height-numbered (n + 1) condition, height-numbered (n + 1 + nodes_in condition) body) refl
  height-numbered n (do_statement at body condition) = rw (height-numbered (n + 1) body, height-numbered (n + 1 + nodes_in body) condition) refl
  height-numbered n (for_statement at initializer condition updates body) = rw (
    height_of_part-numbered (n + 1) initializer,
    height_of_part-numbered (n + 1 + nodes_in_part initializer) condition,
    heights-numbered (n + 1 + nodes_in_part initializer + nodes_in_part condition) updates,
    height-numbered (n + 1 + nodes_in_part initializer + nodes_in_part condition + nodes_in_all updates) body,
  ) refl
  height-numbered n (for_in_statement at is_final written name iterable body) = rw (
    height_of_part-numbered (n + 1) written,
    height-numbered (n + 1 + nodes_in_part written + 1) iterable,
    height-numbered (n + 1 + nodes_in_part written + 1 + nodes_in iterable) body,
  ) refl
  height-numbered n (for_in_assignment at name iterable body) = rw (height-numbered (n + 1 + 1) iterable, height-numbered (n + 1 + 1 + nodes_in iterable) body) refl
  height-numbered n (switch_statement at value cases) = rw (height-numbered (n + 1) value, heights-numbered (n + 1 + nodes_in value) cases) refl
  height-numbered n (switch_case at labels is_default statements) = rw (heights-numbered (n + 1) labels, heights-numbered (n + 1 + nodes_in_all labels) statements) refl
  height-numbered n (try_statement at body handlers finally_block) = rw (
    height-numbered (n + 1) body,
    heights-numbered (n + 1 + nodes_in body) handlers,
    height_of_part-numbered (n + 1 + nodes_in body + nodes_in_all handlers) finally_block,
  ) refl
  height-numbered n (catch_clause at written exception stack_trace body) = rw (
    height_of_part-numbered (n + 1) written,
    height-numbered (n + 1 + nodes_in_part written + nodes_in_part exception + nodes_in_part stack_trace) body,
  ) refl
  height-numbered n (return_statement at value) = rw (height_of_part-numbered (n + 1) value) refl
  height-numbered n (break_statement at label) = refl
  height-numbered n (continue_statement at label) = refl
  height-numbered n (rethrow_statement at) = refl
  height-numbered n (labeled_statement at label body) = rw (height-numbered (n + 1 + 1) body) refl
  height-numbered n (constructor_declaration at metadata name parameters initializers body) = rw (
    height-numbered (n + 1 + nodes_in_all metadata + 1) parameters,
    heights-numbered (n + 1 + nodes_in_all metadata + 1 + nodes_in parameters) initializers,
    height-numbered (n + 1 + nodes_in_all metadata + 1 + nodes_in parameters + nodes_in_all initializers) body,
  ) refl
  height-numbered n (factory_declaration at metadata name parameters body) = rw (
    height-numbered (n + 1 + nodes_in_all metadata + 1) parameters,
    height-numbered (n + 1 + nodes_in_all metadata + 1 + nodes_in parameters) body,
  ) refl
  height-numbered n (method_declaration at metadata is_static function) = rw (height-numbered (n + 1 + nodes_in_all metadata) function) refl
  height-numbered n (field_declaration at metadata is_static variables) = rw (height-numbered (n + 1 + nodes_in_all metadata) variables) refl
  height-numbered n (operator_declaration at metadata result name parameters body) = rw (
    height_of_part-numbered (n + 1 + nodes_in_all metadata) result,
    height-numbered (n + 1 + nodes_in_all metadata + nodes_in_part result + 1) parameters,
    height-numbered (n + 1 + nodes_in_all metadata + nodes_in_part result + 1 + nodes_in parameters) body,
  ) refl
  height-numbered n (field_initializer at name value) = rw (height-numbered (n + 1) value) refl
  height-numbered n (super_initializer at name arguments) = rw (height-numbered (n + 1) arguments) refl
  height-numbered n (redirection at name arguments) = rw (height-numbered (n + 1) arguments) refl
  height-numbered n (class_declaration at metadata is_abstract name type_parameters superclass mixins interfaces members) = rw (
    heights-numbered (n + 1 + nodes_in_all metadata + 1) type_parameters,
    height_of_part-numbered (n + 1 + nodes_in_all metadata + 1 + nodes_in_all type_parameters) superclass,
    heights-numbered (n + 1 + nodes_in_all metadata + 1 + nodes_in_all type_parameters + nodes_in_part superclass) mixins,
    heights-numbered (n + 1 + nodes_in_all metadata + 1 + nodes_in_all type_parameters + nodes_in_part superclass + nodes_in_all mixins) interfaces,
    heights-numbered (n + 1 + nodes_in_all metadata + 1 + nodes_in_all type_parameters + nodes_in_part superclass + nodes_in_all mixins + nodes_in_all interfaces) members,
  ) refl
  height-numbered n (mixin_declaration at metadata name type_parameters constraints interfaces members) = rw (
    heights-numbered (n + 1 + nodes_in_all metadata + 1) type_parameters,
    heights-numbered (n + 1 + nodes_in_all metadata + 1 + nodes_in_all type_parameters) constraints,
    heights-numbered (n + 1 + nodes_in_all metadata + 1 + nodes_in_all type_parameters + nodes_in_all constraints) interfaces,
    heights-numbered (n + 1 + nodes_in_all metadata + 1 + nodes_in_all type_parameters + nodes_in_all constraints + nodes_in_all interfaces) members,
  ) refl
  height-numbered n (type_alias at metadata name written) = rw (height-numbered (n + 1 + nodes_in_all metadata + 1) written) refl
  height-numbered n (function_declaration at metadata function) = rw (height-numbered (n + 1 + nodes_in_all metadata) function) refl
  height-numbered n (variable_declaration at metadata variables) = rw (height-numbered (n + 1 + nodes_in_all metadata) variables) refl
  height-numbered n (library_directive at names) = refl
  height-numbered n (import_directive at uri prefix combinators) = rw (height-numbered (n + 1) uri) refl
  height-numbered n (export_directive at uri combinators) = rw (height-numbered (n + 1) uri) refl
  height-numbered n (part_directive at uri) = rw (height-numbered (n + 1) uri) refl
  height-numbered n (part_of_directive at uri) = rw (height-numbered (n + 1) uri) refl
  height-numbered n (part_of_library_directive at names) = refl
  height-numbered n (show_combinator at names) = refl
  height-numbered n (hide_combinator at names) = refl
  height-numbered n (listed_name at word) = refl
  height-numbered n (error_node at) = refl
  height-numbered n (unit at items) = rw (heights-numbered (n + 1) items) refl

  -- and so are the trees of a list
  pub heights-numbered : (n : ℕ) (ts : Trees) → heights (all_numbered n ts) ≡ heights ts
  heights-numbered n no_more = refl
  heights-numbered n (more first rest) = rw (height-numbered n first, heights-numbered (n + nodes_in first) rest) refl

  -- and a part
  pub height_of_part-numbered : (n : ℕ) (p : Part) → height_of_part (part_numbered n p) ≡ height_of_part p
  height_of_part-numbered n absent = refl
  height_of_part-numbered n (present tree) = height-numbered n tree

mutual
  -- with numbers aside a numbered tree is what it was
  pub bare-numbered : (w : ℕ → ℕ) (n : ℕ) (t : Tree) → bare_with w (numbered n t) ≡ bare_with w t
  bare-numbered w n (void_type at) = refl
  bare-numbered w n (named_type at prefix name arguments nullable) = rw (part_bare-numbered w (n + 1) arguments) refl
  bare-numbered w n (function_type at result type_parameters parameters optional nullable) = rw (
    part_bare-numbered w (n + 1) result,
    all_bare-numbered w (n + 1 + nodes_in_part result) type_parameters,
    all_bare-numbered w (n + 1 + nodes_in_part result + nodes_in_all type_parameters) parameters,
    all_bare-numbered w (n + 1 + nodes_in_part result + nodes_in_all type_parameters + nodes_in_all parameters) optional,
  ) refl
  bare-numbered w n (type_argument_list at types) = rw (all_bare-numbered w (n + 1) types) refl
  bare-numbered w n (type_parameter at name bound) = rw (part_bare-numbered w (n + 1 + 1) bound) refl
  bare-numbered w n (parameter_type at written name) = rw (bare-numbered w (n + 1) written) refl
  bare-numbered w n (integer_literal at word) = refl
  bare-numbered w n (string_literal at strings) = rw (all_bare-numbered w (n + 1) strings) refl
  bare-numbered w n (boolean_literal at value) = refl
  bare-numbered w n (null_literal at) = refl
  bare-numbered w n (this_expression at) = refl
  bare-numbered w n (super_expression at) = refl
  bare-numbered w n (identifier at word) = refl
  bare-numbered w n (parenthesis at inner) = rw (bare-numbered w (n + 1) inner) refl
  bare-numbered w n (new_expression at written name arguments) = rw (bare-numbered w (n + 1) written, bare-numbered w (n + 1 + nodes_in written) arguments) refl
  bare-numbered w n (list_literal at type_arguments elements) = rw (part_bare-numbered w (n + 1) type_arguments, all_bare-numbered w (n + 1 + nodes_in_part type_arguments) elements) refl
  bare-numbered w n (set_or_map_literal at type_arguments entries) = rw (part_bare-numbered w (n + 1) type_arguments, all_bare-numbered w (n + 1 + nodes_in_part type_arguments) entries) refl
  bare-numbered w n (function_expression at parameters body) = rw (bare-numbered w (n + 1) parameters, bare-numbered w (n + 1 + nodes_in parameters) body) refl
  bare-numbered w n (generic_identifier at name type_arguments) = rw (bare-numbered w (n + 1) type_arguments) refl
  bare-numbered w n (property_access at receiver null_aware name) = rw (bare-numbered w (n + 1) receiver) refl
  bare-numbered w n (index_expression at receiver null_aware bracket index) = rw (bare-numbered w (n + 1) receiver, bare-numbered w (n + 1 + nodes_in receiver) index) refl
  bare-numbered w n (null_check at operand) = rw (bare-numbered w (n + 1) operand) refl
  bare-numbered w n (call at callee type_arguments arguments) = rw (
    bare-numbered w (n + 1) callee,
    part_bare-numbered w (n + 1 + nodes_in callee) type_arguments,
    bare-numbered w (n + 1 + nodes_in callee + nodes_in_part type_arguments) arguments,
  ) refl
  bare-numbered w n (unary_expression at operator operand) = rw (bare-numbered w (n + 1) operand) refl
  bare-numbered w n (postfix_expression at operator operand) = rw (bare-numbered w (n + 1) operand) refl
  bare-numbered w n (binary_expression at operator left right) = rw (bare-numbered w (n + 1) left, bare-numbered w (n + 1 + nodes_in left) right) refl
  bare-numbered w n (type_test at operand negated written) = rw (bare-numbered w (n + 1) operand, bare-numbered w (n + 1 + nodes_in operand) written) refl
  bare-numbered w n (type_cast at operand written) = rw (bare-numbered w (n + 1) operand, bare-numbered w (n + 1 + nodes_in operand) written) refl
  bare-numbered w n (conditional at condition then_value else_value) = rw (
    bare-numbered w (n + 1) condition,
    bare-numbered w (n + 1 + nodes_in condition) then_value,
    bare-numbered w (n + 1 + nodes_in condition + nodes_in then_value) else_value,
  ) refl
  bare-numbered w n (assignment at operator target value) = rw (bare-numbered w (n + 1) target, bare-numbered w (n + 1 + nodes_in target) value) refl
  bare-numbered w n (throw_expression at value) = rw (bare-numbered w (n + 1) value) refl
  bare-numbered w n (cascade at receiver null_aware section) = rw (bare-numbered w (n + 1) receiver, bare-numbered w (n + 1 + nodes_in receiver) section) refl
  bare-numbered w n (cascaded_name at name) = refl
  bare-numbered w n (cascaded_index at bracket index) = rw (bare-numbered w (n + 1) index) refl
  bare-numbered w n (simple_string at kind word) = refl
  bare-numbered w n (interpolated_string at elements) = rw (all_bare-numbered w (n + 1) elements) refl
  bare-numbered w n (string_text at kind word) = refl
  bare-numbered w n (string_interpolation at value) = rw (bare-numbered w (n + 1) value) refl
  bare-numbered w n (map_entry at key value) = rw (bare-numbered w (n + 1) key, part_bare-numbered w (n + 1 + nodes_in key) value) refl
  bare-numbered w n (argument_list at arguments) = rw (all_bare-numbered w (n + 1) arguments) refl
  bare-numbered w n (argument at name value) = rw (bare-numbered w (n + 1) value) refl
  bare-numbered w n (annotation at name) = refl
  bare-numbered w n (parameter_list at parameters) = rw (all_bare-numbered w (n + 1) parameters) refl
  bare-numbered w n (parameter at metadata kind is_required is_final written is_field name default_value) = rw (
    all_bare-numbered w (n + 1) metadata,
    part_bare-numbered w (n + 1 + nodes_in_all metadata) written,
    part_bare-numbered w (n + 1 + nodes_in_all metadata + nodes_in_part written + 1) default_value,
  ) refl
  bare-numbered w n (expression_body at value) = rw (bare-numbered w (n + 1) value) refl
  bare-numbered w n (empty_body at) = refl
  bare-numbered w n (native_body at) = refl
  bare-numbered w n (getter at result name body) = rw (part_bare-numbered w (n + 1) result, bare-numbered w (n + 1 + nodes_in_part result + 1) body) refl
  bare-numbered w n (setter at result name parameters body) = rw (
    part_bare-numbered w (n + 1) result,
    bare-numbered w (n + 1 + nodes_in_part result + 1) parameters,
    bare-numbered w (n + 1 + nodes_in_part result + 1 + nodes_in parameters) body,
  ) refl
  bare-numbered w n (plain_function at result name type_parameters parameters body) = rw (
    part_bare-numbered w (n + 1) result,
    all_bare-numbered w (n + 1 + nodes_in_part result + 1) type_parameters,
    bare-numbered w (n + 1 + nodes_in_part result + 1 + nodes_in_all type_parameters) parameters,
    bare-numbered w (n + 1 + nodes_in_part result + 1 + nodes_in_all type_parameters + nodes_in parameters) body,
  ) refl
  bare-numbered w n (variable_list at is_final written variables) = rw (part_bare-numbered w (n + 1) written, all_bare-numbered w (n + 1 + nodes_in_part written) variables) refl
  bare-numbered w n (variable at name initializer) = rw (part_bare-numbered w (n + 1 + 1) initializer) refl
  bare-numbered w n (block at statements) = rw (all_bare-numbered w (n + 1) statements) refl
  bare-numbered w n (variable_statement at variables) = rw (bare-numbered w (n + 1) variables) refl
  bare-numbered w n (function_statement at function) = rw (bare-numbered w (n + 1) function) refl
  bare-numbered w n (expression_statement at value) = rw (part_bare-numbered w (n + 1) value) refl
  bare-numbered w n (if_statement at condition then_branch else_branch) = rw (
    bare-numbered w (n + 1) condition,
    bare-numbered w (n + 1 + nodes_in condition) then_branch,
    part_bare-numbered w (n + 1 + nodes_in condition + nodes_in then_branch) else_branch,
  ) refl
  bare-numbered w n (while_statement at condition body) = rw (bare-numbered w (n + 1) condition, bare-numbered w (n + 1 + nodes_in condition) body) refl
  bare-numbered w n (do_statement at body condition) = rw (bare-numbered w (n + 1) body, bare-numbered w (n + 1 + nodes_in body) condition) refl
  bare-numbered w n (for_statement at initializer condition updates body) = rw (
    part_bare-numbered w (n + 1) initializer,
    part_bare-numbered w (n + 1 + nodes_in_part initializer) condition,
    all_bare-numbered w (n + 1 + nodes_in_part initializer + nodes_in_part condition) updates,
    bare-numbered w (n + 1 + nodes_in_part initializer + nodes_in_part condition + nodes_in_all updates) body,
  ) refl
  bare-numbered w n (for_in_statement at is_final written name iterable body) = rw (
    part_bare-numbered w (n + 1) written,
    bare-numbered w (n + 1 + nodes_in_part written + 1) iterable,
    bare-numbered w (n + 1 + nodes_in_part written + 1 + nodes_in iterable) body,
  ) refl
  bare-numbered w n (for_in_assignment at name iterable body) = rw (bare-numbered w (n + 1 + 1) iterable, bare-numbered w (n + 1 + 1 + nodes_in iterable) body) refl
  bare-numbered w n (switch_statement at value cases) = rw (bare-numbered w (n + 1) value, all_bare-numbered w (n + 1 + nodes_in value) cases) refl
  bare-numbered w n (switch_case at labels is_default statements) = rw (all_bare-numbered w (n + 1) labels, all_bare-numbered w (n + 1 + nodes_in_all labels) statements) refl
  bare-numbered w n (try_statement at body handlers finally_block) = rw (
    bare-numbered w (n + 1) body,
    all_bare-numbered w (n + 1 + nodes_in body) handlers,
    part_bare-numbered w (n + 1 + nodes_in body + nodes_in_all handlers) finally_block,
  ) refl
  bare-numbered w n (catch_clause at written exception stack_trace body) = rw (
    part_bare-numbered w (n + 1) written,
    part_bare-numbered w (n + 1 + nodes_in_part written) exception,
    part_bare-numbered w (n + 1 + nodes_in_part written + nodes_in_part exception) stack_trace,
    bare-numbered w (n + 1 + nodes_in_part written + nodes_in_part exception + nodes_in_part stack_trace) body,
  ) refl
  bare-numbered w n (return_statement at value) = rw (part_bare-numbered w (n + 1) value) refl
  bare-numbered w n (break_statement at label) = refl
  bare-numbered w n (continue_statement at label) = refl
  bare-numbered w n (rethrow_statement at) = refl
  bare-numbered w n (labeled_statement at label body) = rw (bare-numbered w (n + 1 + 1) body) refl
  bare-numbered w n (constructor_declaration at metadata name parameters initializers body) = rw (
    all_bare-numbered w (n + 1) metadata,
    bare-numbered w (n + 1 + nodes_in_all metadata + 1) parameters,
    all_bare-numbered w (n + 1 + nodes_in_all metadata + 1 + nodes_in parameters) initializers,
    bare-numbered w (n + 1 + nodes_in_all metadata + 1 + nodes_in parameters + nodes_in_all initializers) body,
  ) refl
  bare-numbered w n (factory_declaration at metadata name parameters body) = rw (
    all_bare-numbered w (n + 1) metadata,
    bare-numbered w (n + 1 + nodes_in_all metadata + 1) parameters,
    bare-numbered w (n + 1 + nodes_in_all metadata + 1 + nodes_in parameters) body,
  ) refl
  bare-numbered w n (method_declaration at metadata is_static function) = rw (all_bare-numbered w (n + 1) metadata, bare-numbered w (n + 1 + nodes_in_all metadata) function) refl
  bare-numbered w n (field_declaration at metadata is_static variables) = rw (all_bare-numbered w (n + 1) metadata, bare-numbered w (n + 1 + nodes_in_all metadata) variables) refl
  bare-numbered w n (operator_declaration at metadata result name parameters body) = rw (
    all_bare-numbered w (n + 1) metadata,
    part_bare-numbered w (n + 1 + nodes_in_all metadata) result,
    bare-numbered w (n + 1 + nodes_in_all metadata + nodes_in_part result + 1) parameters,
    bare-numbered w (n + 1 + nodes_in_all metadata + nodes_in_part result + 1 + nodes_in parameters) body,
  ) refl
  bare-numbered w n (field_initializer at name value) = rw (bare-numbered w (n + 1) value) refl
  bare-numbered w n (super_initializer at name arguments) = rw (bare-numbered w (n + 1) arguments) refl
  bare-numbered w n (redirection at name arguments) = rw (bare-numbered w (n + 1) arguments) refl
  bare-numbered w n (class_declaration at metadata is_abstract name type_parameters superclass mixins interfaces members) = rw (
    all_bare-numbered w (n + 1) metadata,
    all_bare-numbered w (n + 1 + nodes_in_all metadata + 1) type_parameters,
    part_bare-numbered w (n + 1 + nodes_in_all metadata + 1 + nodes_in_all type_parameters) superclass,
    all_bare-numbered w (n + 1 + nodes_in_all metadata + 1 + nodes_in_all type_parameters + nodes_in_part superclass) mixins,
    all_bare-numbered w (n + 1 + nodes_in_all metadata + 1 + nodes_in_all type_parameters + nodes_in_part superclass + nodes_in_all mixins) interfaces,
    all_bare-numbered w (n + 1 + nodes_in_all metadata + 1 + nodes_in_all type_parameters + nodes_in_part superclass + nodes_in_all mixins + nodes_in_all interfaces) members,
  ) refl
  bare-numbered w n (mixin_declaration at metadata name type_parameters constraints interfaces members) = rw (
    all_bare-numbered w (n + 1) metadata,
    all_bare-numbered w (n + 1 + nodes_in_all metadata + 1) type_parameters,
    all_bare-numbered w (n + 1 + nodes_in_all metadata + 1 + nodes_in_all type_parameters) constraints,
    all_bare-numbered w (n + 1 + nodes_in_all metadata + 1 + nodes_in_all type_parameters + nodes_in_all constraints) interfaces,
    all_bare-numbered w (n + 1 + nodes_in_all metadata + 1 + nodes_in_all type_parameters + nodes_in_all constraints + nodes_in_all interfaces) members,
  ) refl
  bare-numbered w n (type_alias at metadata name written) = rw (all_bare-numbered w (n + 1) metadata, bare-numbered w (n + 1 + nodes_in_all metadata + 1) written) refl
  bare-numbered w n (function_declaration at metadata function) = rw (all_bare-numbered w (n + 1) metadata, bare-numbered w (n + 1 + nodes_in_all metadata) function) refl
  bare-numbered w n (variable_declaration at metadata variables) = rw (all_bare-numbered w (n + 1) metadata, bare-numbered w (n + 1 + nodes_in_all metadata) variables) refl
  bare-numbered w n (library_directive at names) = rw (all_bare-numbered w (n + 1) names) refl
  bare-numbered w n (import_directive at uri prefix combinators) = rw (
    bare-numbered w (n + 1) uri,
    part_bare-numbered w (n + 1 + nodes_in uri) prefix,
    all_bare-numbered w (n + 1 + nodes_in uri + nodes_in_part prefix) combinators,
  ) refl
  bare-numbered w n (export_directive at uri combinators) = rw (bare-numbered w (n + 1) uri, all_bare-numbered w (n + 1 + nodes_in uri) combinators) refl
  bare-numbered w n (part_directive at uri) = rw (bare-numbered w (n + 1) uri) refl
  bare-numbered w n (part_of_directive at uri) = rw (bare-numbered w (n + 1) uri) refl
  bare-numbered w n (part_of_library_directive at names) = rw (all_bare-numbered w (n + 1) names) refl
  bare-numbered w n (show_combinator at names) = rw (all_bare-numbered w (n + 1) names) refl
  bare-numbered w n (hide_combinator at names) = rw (all_bare-numbered w (n + 1) names) refl
  bare-numbered w n (listed_name at word) = refl
  bare-numbered w n (error_node at) = refl
  bare-numbered w n (unit at items) = rw (all_bare-numbered w (n + 1) items) refl

  -- and so are the trees of a list
  pub all_bare-numbered : (w : ℕ → ℕ) (n : ℕ) (ts : Trees) → all_bare_with w (all_numbered n ts) ≡ all_bare_with w ts
  all_bare-numbered w n no_more = refl
  all_bare-numbered w n (more first rest) = rw (bare-numbered w n first, all_bare-numbered w (n + nodes_in first) rest) refl

  -- and a part
  pub part_bare-numbered : (w : ℕ → ℕ) (n : ℕ) (p : Part) → part_bare_with w (part_numbered n p) ≡ part_bare_with w p
  part_bare-numbered w n absent = refl
  part_bare-numbered w n (present tree) = ap present (bare-numbered w n tree)

mutual
  -- a tree without ranges and numbers is as high as before
  pub height-bare : (w : ℕ → ℕ) (t : Tree) → height (bare_with w t) ≡ height t
  height-bare w (void_type at) = refl
  height-bare w (named_type at prefix name arguments nullable) = rw (height_of_part-bare w arguments) refl
  height-bare w (function_type at result type_parameters parameters optional nullable) = rw (height_of_part-bare w result, heights-bare w type_parameters, heights-bare w parameters, heights-bare w optional) refl
  height-bare w (type_argument_list at types) = rw (heights-bare w types) refl
  height-bare w (type_parameter at name bound) = rw (height_of_part-bare w bound) refl
  height-bare w (parameter_type at written name) = rw (height-bare w written) refl
  height-bare w (integer_literal at word) = refl
  height-bare w (string_literal at strings) = rw (heights-bare w strings) refl
  height-bare w (boolean_literal at value) = refl
  height-bare w (null_literal at) = refl
  height-bare w (this_expression at) = refl
  height-bare w (super_expression at) = refl
  height-bare w (identifier at word) = refl
  height-bare w (parenthesis at inner) = rw (height-bare w inner) refl
  height-bare w (new_expression at written name arguments) = rw (height-bare w written, height-bare w arguments) refl
  height-bare w (list_literal at type_arguments elements) = rw (height_of_part-bare w type_arguments, heights-bare w elements) refl
  height-bare w (set_or_map_literal at type_arguments entries) = rw (height_of_part-bare w type_arguments, heights-bare w entries) refl
  height-bare w (function_expression at parameters body) = rw (height-bare w parameters, height-bare w body) refl
  height-bare w (generic_identifier at name type_arguments) = rw (height-bare w type_arguments) refl
  height-bare w (property_access at receiver null_aware name) = rw (height-bare w receiver) refl
  height-bare w (index_expression at receiver null_aware bracket index) = rw (height-bare w receiver, height-bare w index) refl
  height-bare w (null_check at operand) = rw (height-bare w operand) refl
  height-bare w (call at callee type_arguments arguments) = rw (height-bare w callee, height_of_part-bare w type_arguments, height-bare w arguments) refl
  height-bare w (unary_expression at operator operand) = rw (height-bare w operand) refl
  height-bare w (postfix_expression at operator operand) = rw (height-bare w operand) refl
  height-bare w (binary_expression at operator left right) = rw (height-bare w left, height-bare w right) refl
  height-bare w (type_test at operand negated written) = rw (height-bare w operand, height-bare w written) refl
  height-bare w (type_cast at operand written) = rw (height-bare w operand, height-bare w written) refl
  height-bare w (conditional at condition then_value else_value) = rw (height-bare w condition, height-bare w then_value, height-bare w else_value) refl
  height-bare w (assignment at operator target value) = rw (height-bare w target, height-bare w value) refl
  height-bare w (throw_expression at value) = rw (height-bare w value) refl
  height-bare w (cascade at receiver null_aware section) = rw (height-bare w receiver, height-bare w section) refl
  height-bare w (cascaded_name at name) = refl
  height-bare w (cascaded_index at bracket index) = rw (height-bare w index) refl
  height-bare w (simple_string at kind word) = refl
  height-bare w (interpolated_string at elements) = rw (heights-bare w elements) refl
  height-bare w (string_text at kind word) = refl
  height-bare w (string_interpolation at value) = rw (height-bare w value) refl
  height-bare w (map_entry at key value) = rw (height-bare w key, height_of_part-bare w value) refl
  height-bare w (argument_list at arguments) = rw (heights-bare w arguments) refl
  height-bare w (argument at name value) = rw (height-bare w value) refl
  height-bare w (annotation at name) = refl
  height-bare w (parameter_list at parameters) = rw (heights-bare w parameters) refl
  height-bare w (parameter at metadata kind is_required is_final written is_field name default_value) = rw (height_of_part-bare w written, height_of_part-bare w default_value) refl
  height-bare w (expression_body at value) = rw (height-bare w value) refl
  height-bare w (empty_body at) = refl
  height-bare w (native_body at) = refl
  height-bare w (getter at result name body) = rw (height_of_part-bare w result, height-bare w body) refl
  height-bare w (setter at result name parameters body) = rw (height_of_part-bare w result, height-bare w parameters, height-bare w body) refl
  height-bare w (plain_function at result name type_parameters parameters body) = rw (height_of_part-bare w result, heights-bare w type_parameters, height-bare w parameters, height-bare w body) refl
  height-bare w (variable_list at is_final written variables) = rw (height_of_part-bare w written, heights-bare w variables) refl
  height-bare w (variable at name initializer) = rw (height_of_part-bare w initializer) refl
  height-bare w (block at statements) = rw (heights-bare w statements) refl
  height-bare w (variable_statement at variables) = rw (height-bare w variables) refl
  height-bare w (function_statement at function) = rw (height-bare w function) refl
  height-bare w (expression_statement at value) = rw (height_of_part-bare w value) refl
  height-bare w (if_statement at condition then_branch else_branch) = rw (height-bare w condition, height-bare w then_branch, height_of_part-bare w else_branch) refl
  height-bare w (while_statement at condition body) = rw (height-bare w condition, height-bare w body) refl
  height-bare w (do_statement at body condition) = rw (height-bare w body, height-bare w condition) refl
  height-bare w (for_statement at initializer condition updates body) = rw (height_of_part-bare w initializer, height_of_part-bare w condition, heights-bare w updates, height-bare w body) refl
  height-bare w (for_in_statement at is_final written name iterable body) = rw (height_of_part-bare w written, height-bare w iterable, height-bare w body) refl
  height-bare w (for_in_assignment at name iterable body) = rw (height-bare w iterable, height-bare w body) refl
  height-bare w (switch_statement at value cases) = rw (height-bare w value, heights-bare w cases) refl
  height-bare w (switch_case at labels is_default statements) = rw (heights-bare w labels, heights-bare w statements) refl
  height-bare w (try_statement at body handlers finally_block) = rw (height-bare w body, heights-bare w handlers, height_of_part-bare w finally_block) refl
  height-bare w (catch_clause at written exception stack_trace body) = rw (height_of_part-bare w written, height-bare w body) refl
  height-bare w (return_statement at value) = rw (height_of_part-bare w value) refl
  height-bare w (break_statement at label) = refl
  height-bare w (continue_statement at label) = refl
  height-bare w (rethrow_statement at) = refl
  height-bare w (labeled_statement at label body) = rw (height-bare w body) refl
  height-bare w (constructor_declaration at metadata name parameters initializers body) = rw (height-bare w parameters, heights-bare w initializers, height-bare w body) refl
  height-bare w (factory_declaration at metadata name parameters body) = rw (height-bare w parameters, height-bare w body) refl
  height-bare w (method_declaration at metadata is_static function) = rw (height-bare w function) refl
  height-bare w (field_declaration at metadata is_static variables) = rw (height-bare w variables) refl
  height-bare w (operator_declaration at metadata result name parameters body) = rw (height_of_part-bare w result, height-bare w parameters, height-bare w body) refl
  height-bare w (field_initializer at name value) = rw (height-bare w value) refl
  height-bare w (super_initializer at name arguments) = rw (height-bare w arguments) refl
  height-bare w (redirection at name arguments) = rw (height-bare w arguments) refl
  height-bare w (class_declaration at metadata is_abstract name type_parameters superclass mixins interfaces members) = rw (
    heights-bare w type_parameters,
    height_of_part-bare w superclass,
    heights-bare w mixins,
    heights-bare w interfaces,
    heights-bare w members,
  ) refl
  height-bare w (mixin_declaration at metadata name type_parameters constraints interfaces members) = rw (heights-bare w type_parameters, heights-bare w constraints, heights-bare w interfaces, heights-bare w members) refl
  height-bare w (type_alias at metadata name written) = rw (height-bare w written) refl
  height-bare w (function_declaration at metadata function) = rw (height-bare w function) refl
  height-bare w (variable_declaration at metadata variables) = rw (height-bare w variables) refl
  height-bare w (library_directive at names) = refl
  height-bare w (import_directive at uri prefix combinators) = rw (height-bare w uri) refl
  height-bare w (export_directive at uri combinators) = rw (height-bare w uri) refl
  height-bare w (part_directive at uri) = rw (height-bare w uri) refl
  height-bare w (part_of_directive at uri) = rw (height-bare w uri) refl
  height-bare w (part_of_library_directive at names) = refl
  height-bare w (show_combinator at names) = refl
  height-bare w (hide_combinator at names) = refl
  height-bare w (listed_name at word) = refl
  height-bare w (error_node at) = refl
  height-bare w (unit at items) = rw (heights-bare w items) refl

  -- and so are the trees of a list
  pub heights-bare : (w : ℕ → ℕ) (ts : Trees) → heights (all_bare_with w ts) ≡ heights ts
  heights-bare w no_more = refl
  heights-bare w (more first rest) = rw (height-bare w first, heights-bare w rest) refl

  -- and a part
  pub height_of_part-bare : (w : ℕ → ℕ) (p : Part) → height_of_part (part_bare_with w p) ≡ height_of_part p
  height_of_part-bare w absent = refl
  height_of_part-bare w (present tree) = height-bare w tree
