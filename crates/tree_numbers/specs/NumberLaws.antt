-- Numbering keeps the number of nodes, and forgets the numbers that were there.
use Rattle.std.specs.Prelude.{◌≡◌, ℕ, ◌+◌, refl}
use Rattle.std.proofs.Common.{ap}
use Rattle.dart_tree.specs.Tree.{Tree, Trees, Part, no_more, more, absent, present, void_type, named_type, function_type, type_argument_list, type_parameter, parameter_type, integer_literal, string_literal, boolean_literal, null_literal, this_expression, super_expression, identifier, parenthesis, new_expression, list_literal, set_or_map_literal, function_expression, generic_identifier, property_access, index_expression, null_check, call, unary_expression, postfix_expression, binary_expression, type_test, type_cast, conditional, assignment, throw_expression, cascade, cascaded_name, cascaded_index, simple_string, interpolated_string, string_text, string_interpolation, map_entry, argument_list, argument, annotation, parameter_list, parameter, expression_body, empty_body, native_body, getter, setter, plain_function, variable_list, variable, block, variable_statement, function_statement, expression_statement, if_statement, while_statement, do_statement, for_statement, for_in_statement, for_in_assignment, switch_statement, switch_case, try_statement, catch_clause, return_statement, break_statement, continue_statement, rethrow_statement, labeled_statement, constructor_declaration, factory_declaration, method_declaration, field_declaration, operator_declaration, field_initializer, super_initializer, redirection, class_declaration, mixin_declaration, type_alias, function_declaration, variable_declaration, library_directive, import_directive, export_directive, part_directive, part_of_directive, part_of_library_directive, show_combinator, hide_combinator, listed_name, error_node, unit}
use Rattle.dart_tree.specs.Numbers.{nodes_in, nodes_in_all, nodes_in_part, numbered, all_numbered, part_numbered}

mutual
  -- a numbered tree has as many nodes as before
  pub nodes_in-numbered : (n : ℕ) (t : Tree) → nodes_in (numbered n t) ≡ nodes_in t
  nodes_in-numbered n (void_type at) = refl
  nodes_in-numbered n (named_type at prefix name arguments nullable) = rw (nodes_in-part_numbered (n + 1) arguments) refl
  nodes_in-numbered n (function_type at result type_parameters parameters optional nullable) = rw (
    nodes_in-part_numbered (n + 1) result,
    nodes_in-all_numbered (n + 1 + nodes_in_part result) type_parameters,
    nodes_in-all_numbered (n + 1 + nodes_in_part result + nodes_in_all type_parameters) parameters,
    nodes_in-all_numbered (n + 1 + nodes_in_part result + nodes_in_all type_parameters + nodes_in_all parameters) optional,
  ) refl
  nodes_in-numbered n (type_argument_list at types) = rw (nodes_in-all_numbered (n + 1) types) refl
  nodes_in-numbered n (type_parameter at name bound) = rw (nodes_in-part_numbered (n + 1 + 1) bound) refl
  nodes_in-numbered n (parameter_type at written name) = rw (nodes_in-numbered (n + 1) written) refl
  nodes_in-numbered n (integer_literal at word) = refl
  nodes_in-numbered n (string_literal at strings) = rw (nodes_in-all_numbered (n + 1) strings) refl
  nodes_in-numbered n (boolean_literal at value) = refl
  nodes_in-numbered n (null_literal at) = refl
  nodes_in-numbered n (this_expression at) = refl
  nodes_in-numbered n (super_expression at) = refl
  nodes_in-numbered n (identifier at word) = refl
  nodes_in-numbered n (parenthesis at inner) = rw (nodes_in-numbered (n + 1) inner) refl
  nodes_in-numbered n (new_expression at written name arguments) = rw (nodes_in-numbered (n + 1) written, nodes_in-numbered (n + 1 + nodes_in written) arguments) refl
  nodes_in-numbered n (list_literal at type_arguments elements) = rw (nodes_in-part_numbered (n + 1) type_arguments, nodes_in-all_numbered (n + 1 + nodes_in_part type_arguments) elements) refl
  nodes_in-numbered n (set_or_map_literal at type_arguments entries) = rw (nodes_in-part_numbered (n + 1) type_arguments, nodes_in-all_numbered (n + 1 + nodes_in_part type_arguments) entries) refl
  nodes_in-numbered n (function_expression at parameters body) = rw (nodes_in-numbered (n + 1) parameters, nodes_in-numbered (n + 1 + nodes_in parameters) body) refl
  nodes_in-numbered n (generic_identifier at name type_arguments) = rw (nodes_in-numbered (n + 1) type_arguments) refl
  nodes_in-numbered n (property_access at receiver null_aware name) = rw (nodes_in-numbered (n + 1) receiver) refl
  nodes_in-numbered n (index_expression at receiver null_aware bracket index) = rw (nodes_in-numbered (n + 1) receiver, nodes_in-numbered (n + 1 + nodes_in receiver) index) refl
  nodes_in-numbered n (null_check at operand) = rw (nodes_in-numbered (n + 1) operand) refl
  nodes_in-numbered n (call at callee type_arguments arguments) = rw (
    nodes_in-numbered (n + 1) callee,
    nodes_in-part_numbered (n + 1 + nodes_in callee) type_arguments,
    nodes_in-numbered (n + 1 + nodes_in callee + nodes_in_part type_arguments) arguments,
  ) refl
  nodes_in-numbered n (unary_expression at operator operand) = rw (nodes_in-numbered (n + 1) operand) refl
  nodes_in-numbered n (postfix_expression at operator operand) = rw (nodes_in-numbered (n + 1) operand) refl
  nodes_in-numbered n (binary_expression at operator left right) = rw (nodes_in-numbered (n + 1) left, nodes_in-numbered (n + 1 + nodes_in left) right) refl
  nodes_in-numbered n (type_test at operand negated written) = rw (nodes_in-numbered (n + 1) operand, nodes_in-numbered (n + 1 + nodes_in operand) written) refl
  nodes_in-numbered n (type_cast at operand written) = rw (nodes_in-numbered (n + 1) operand, nodes_in-numbered (n + 1 + nodes_in operand) written) refl
  nodes_in-numbered n (conditional at condition then_value else_value) = rw (
    nodes_in-numbered (n + 1) condition,
    nodes_in-numbered (n + 1 + nodes_in condition) then_value,
    nodes_in-numbered (n + 1 + nodes_in condition + nodes_in then_value) else_value,
  ) refl
  nodes_in-numbered n (assignment at operator target value) = rw (nodes_in-numbered (n + 1) target, nodes_in-numbered (n + 1 + nodes_in target) value) refl
  nodes_in-numbered n (throw_expression at value) = rw (nodes_in-numbered (n + 1) value) refl
  nodes_in-numbered n (cascade at receiver null_aware section) = rw (nodes_in-numbered (n + 1) receiver, nodes_in-numbered (n + 1 + nodes_in receiver) section) refl
  nodes_in-numbered n (cascaded_name at name) = refl
  nodes_in-numbered n (cascaded_index at bracket index) = rw (nodes_in-numbered (n + 1) index) refl
  nodes_in-numbered n (simple_string at kind word) = refl
  nodes_in-numbered n (interpolated_string at elements) = rw (nodes_in-all_numbered (n + 1) elements) refl
  nodes_in-numbered n (string_text at kind word) = refl
  nodes_in-numbered n (string_interpolation at value) = rw (nodes_in-numbered (n + 1) value) refl
  nodes_in-numbered n (map_entry at key value) = rw (nodes_in-numbered (n + 1) key, nodes_in-part_numbered (n + 1 + nodes_in key) value) refl
  nodes_in-numbered n (argument_list at arguments) = rw (nodes_in-all_numbered (n + 1) arguments) refl
  nodes_in-numbered n (argument at name value) = rw (nodes_in-numbered (n + 1) value) refl
  nodes_in-numbered n (annotation at name) = refl
  nodes_in-numbered n (parameter_list at parameters) = rw (nodes_in-all_numbered (n + 1) parameters) refl
  nodes_in-numbered n (parameter at metadata kind is_required is_final written is_field name default_value) = rw (
    nodes_in-all_numbered (n + 1) metadata,
    nodes_in-part_numbered (n + 1 + nodes_in_all metadata) written,
    nodes_in-part_numbered (n + 1 + nodes_in_all metadata + nodes_in_part written + 1) default_value,
  ) refl
  nodes_in-numbered n (expression_body at value) = rw (nodes_in-numbered (n + 1) value) refl
  nodes_in-numbered n (empty_body at) = refl
  nodes_in-numbered n (native_body at) = refl
  nodes_in-numbered n (getter at result name body) = rw (nodes_in-part_numbered (n + 1) result, nodes_in-numbered (n + 1 + nodes_in_part result + 1) body) refl
  nodes_in-numbered n (setter at result name parameters body) = rw (
    nodes_in-part_numbered (n + 1) result,
    nodes_in-numbered (n + 1 + nodes_in_part result + 1) parameters,
    nodes_in-numbered (n + 1 + nodes_in_part result + 1 + nodes_in parameters) body,
  ) refl
  nodes_in-numbered n (plain_function at result name type_parameters parameters body) = rw (
    nodes_in-part_numbered (n + 1) result,
    nodes_in-all_numbered (n + 1 + nodes_in_part result + 1) type_parameters,
    nodes_in-numbered (n + 1 + nodes_in_part result + 1 + nodes_in_all type_parameters) parameters,
    nodes_in-numbered (n + 1 + nodes_in_part result + 1 + nodes_in_all type_parameters + nodes_in parameters) body,
  ) refl
  nodes_in-numbered n (variable_list at is_final written variables) = rw (nodes_in-part_numbered (n + 1) written, nodes_in-all_numbered (n + 1 + nodes_in_part written) variables) refl
  nodes_in-numbered n (variable at name initializer) = rw (nodes_in-part_numbered (n + 1 + 1) initializer) refl
  nodes_in-numbered n (block at statements) = rw (nodes_in-all_numbered (n + 1) statements) refl
  nodes_in-numbered n (variable_statement at variables) = rw (nodes_in-numbered (n + 1) variables) refl
  nodes_in-numbered n (function_statement at function) = rw (nodes_in-numbered (n + 1) function) refl
  nodes_in-numbered n (expression_statement at value) = rw (nodes_in-part_numbered (n + 1) value) refl
  nodes_in-numbered n (if_statement at condition then_branch else_branch) = rw (
    nodes_in-numbered (n + 1) condition,
    nodes_in-numbered (n + 1 + nodes_in condition) then_branch,
    nodes_in-part_numbered (n + 1 + nodes_in condition + nodes_in then_branch) else_branch,
  ) refl
  nodes_in-numbered n (while_statement at condition body) = rw (nodes_in-numbered (n + 1) condition, nodes_in-numbered (n + 1 + nodes_in condition) body) refl
  nodes_in-numbered n (do_statement at body condition) = rw (nodes_in-numbered (n + 1) body, nodes_in-numbered (n + 1 + nodes_in body) condition) refl
  nodes_in-numbered n (for_statement at initializer condition updates body) = rw (
    nodes_in-part_numbered (n + 1) initializer,
    nodes_in-part_numbered (n + 1 + nodes_in_part initializer) condition,
    nodes_in-all_numbered (n + 1 + nodes_in_part initializer + nodes_in_part condition) updates,
    nodes_in-numbered (n + 1 + nodes_in_part initializer + nodes_in_part condition + nodes_in_all updates) body,
  ) refl
  nodes_in-numbered n (for_in_statement at is_final written name iterable body) = rw (
    nodes_in-part_numbered (n + 1) written,
    nodes_in-numbered (n + 1 + nodes_in_part written + 1) iterable,
    nodes_in-numbered (n + 1 + nodes_in_part written + 1 + nodes_in iterable) body,
  ) refl
  nodes_in-numbered n (for_in_assignment at name iterable body) = rw (nodes_in-numbered (n + 1 + 1) iterable, nodes_in-numbered (n + 1 + 1 + nodes_in iterable) body) refl
  nodes_in-numbered n (switch_statement at value cases) = rw (nodes_in-numbered (n + 1) value, nodes_in-all_numbered (n + 1 + nodes_in value) cases) refl
  nodes_in-numbered n (switch_case at labels is_default statements) = rw (nodes_in-all_numbered (n + 1) labels, nodes_in-all_numbered (n + 1 + nodes_in_all labels) statements) refl
  nodes_in-numbered n (try_statement at body handlers finally_block) = rw (
    nodes_in-numbered (n + 1) body,
    nodes_in-all_numbered (n + 1 + nodes_in body) handlers,
    nodes_in-part_numbered (n + 1 + nodes_in body + nodes_in_all handlers) finally_block,
  ) refl
  nodes_in-numbered n (catch_clause at written exception stack_trace body) = rw (
    nodes_in-part_numbered (n + 1) written,
    nodes_in-part_numbered (n + 1 + nodes_in_part written) exception,
    nodes_in-part_numbered (n + 1 + nodes_in_part written + nodes_in_part exception) stack_trace,
    nodes_in-numbered (n + 1 + nodes_in_part written + nodes_in_part exception + nodes_in_part stack_trace) body,
  ) refl
  nodes_in-numbered n (return_statement at value) = rw (nodes_in-part_numbered (n + 1) value) refl
  nodes_in-numbered n (break_statement at label) = refl
  nodes_in-numbered n (continue_statement at label) = refl
  nodes_in-numbered n (rethrow_statement at) = refl
  nodes_in-numbered n (labeled_statement at label body) = rw (nodes_in-numbered (n + 1 + 1) body) refl
  nodes_in-numbered n (constructor_declaration at metadata name parameters initializers body) = rw (
    nodes_in-all_numbered (n + 1) metadata,
    nodes_in-numbered (n + 1 + nodes_in_all metadata + 1) parameters,
    nodes_in-all_numbered (n + 1 + nodes_in_all metadata + 1 + nodes_in parameters) initializers,
    nodes_in-numbered (n + 1 + nodes_in_all metadata + 1 + nodes_in parameters + nodes_in_all initializers) body,
  ) refl
  nodes_in-numbered n (factory_declaration at metadata name parameters body) = rw (
    nodes_in-all_numbered (n + 1) metadata,
    nodes_in-numbered (n + 1 + nodes_in_all metadata + 1) parameters,
    nodes_in-numbered (n + 1 + nodes_in_all metadata + 1 + nodes_in parameters) body,
  ) refl
  nodes_in-numbered n (method_declaration at metadata is_static function) = rw (nodes_in-all_numbered (n + 1) metadata, nodes_in-numbered (n + 1 + nodes_in_all metadata) function) refl
  nodes_in-numbered n (field_declaration at metadata is_static variables) = rw (nodes_in-all_numbered (n + 1) metadata, nodes_in-numbered (n + 1 + nodes_in_all metadata) variables) refl
  nodes_in-numbered n (operator_declaration at metadata result name parameters body) = rw (
    nodes_in-all_numbered (n + 1) metadata,
    nodes_in-part_numbered (n + 1 + nodes_in_all metadata) result,
    nodes_in-numbered (n + 1 + nodes_in_all metadata + nodes_in_part result + 1) parameters,
    nodes_in-numbered (n + 1 + nodes_in_all metadata + nodes_in_part result + 1 + nodes_in parameters) body,
  ) refl
  nodes_in-numbered n (field_initializer at name value) = rw (nodes_in-numbered (n + 1) value) refl
  nodes_in-numbered n (super_initializer at name arguments) = rw (nodes_in-numbered (n + 1) arguments) refl
  nodes_in-numbered n (redirection at name arguments) = rw (nodes_in-numbered (n + 1) arguments) refl
  nodes_in-numbered n (class_declaration at metadata is_abstract name type_parameters superclass mixins interfaces members) = rw (
    nodes_in-all_numbered (n + 1) metadata,
    nodes_in-all_numbered (n + 1 + nodes_in_all metadata + 1) type_parameters,
    nodes_in-part_numbered (n + 1 + nodes_in_all metadata + 1 + nodes_in_all type_parameters) superclass,
    nodes_in-all_numbered (n + 1 + nodes_in_all metadata + 1 + nodes_in_all type_parameters + nodes_in_part superclass) mixins,
    nodes_in-all_numbered (n + 1 + nodes_in_all metadata + 1 + nodes_in_all type_parameters + nodes_in_part superclass + nodes_in_all mixins) interfaces,
    nodes_in-all_numbered (n + 1 + nodes_in_all metadata + 1 + nodes_in_all type_parameters + nodes_in_part superclass + nodes_in_all mixins + nodes_in_all interfaces) members,
  ) refl
  nodes_in-numbered n (mixin_declaration at metadata name type_parameters constraints interfaces members) = rw (
    nodes_in-all_numbered (n + 1) metadata,
    nodes_in-all_numbered (n + 1 + nodes_in_all metadata + 1) type_parameters,
    nodes_in-all_numbered (n + 1 + nodes_in_all metadata + 1 + nodes_in_all type_parameters) constraints,
    nodes_in-all_numbered (n + 1 + nodes_in_all metadata + 1 + nodes_in_all type_parameters + nodes_in_all constraints) interfaces,
    nodes_in-all_numbered (n + 1 + nodes_in_all metadata + 1 + nodes_in_all type_parameters + nodes_in_all constraints + nodes_in_all interfaces) members,
  ) refl
  nodes_in-numbered n (type_alias at metadata name written) = rw (nodes_in-all_numbered (n + 1) metadata, nodes_in-numbered (n + 1 + nodes_in_all metadata + 1) written) refl
  nodes_in-numbered n (function_declaration at metadata function) = rw (nodes_in-all_numbered (n + 1) metadata, nodes_in-numbered (n + 1 + nodes_in_all metadata) function) refl
  nodes_in-numbered n (variable_declaration at metadata variables) = rw (nodes_in-all_numbered (n + 1) metadata, nodes_in-numbered (n + 1 + nodes_in_all metadata) variables) refl
  nodes_in-numbered n (library_directive at names) = rw (nodes_in-all_numbered (n + 1) names) refl
  nodes_in-numbered n (import_directive at uri prefix combinators) = rw (
    nodes_in-numbered (n + 1) uri,
    nodes_in-part_numbered (n + 1 + nodes_in uri) prefix,
    nodes_in-all_numbered (n + 1 + nodes_in uri + nodes_in_part prefix) combinators,
  ) refl
  nodes_in-numbered n (export_directive at uri combinators) = rw (nodes_in-numbered (n + 1) uri, nodes_in-all_numbered (n + 1 + nodes_in uri) combinators) refl
  nodes_in-numbered n (part_directive at uri) = rw (nodes_in-numbered (n + 1) uri) refl
  nodes_in-numbered n (part_of_directive at uri) = rw (nodes_in-numbered (n + 1) uri) refl
  nodes_in-numbered n (part_of_library_directive at names) = rw (nodes_in-all_numbered (n + 1) names) refl
  nodes_in-numbered n (show_combinator at names) = rw (nodes_in-all_numbered (n + 1) names) refl
  nodes_in-numbered n (hide_combinator at names) = rw (nodes_in-all_numbered (n + 1) names) refl
  nodes_in-numbered n (listed_name at word) = refl
  nodes_in-numbered n (error_node at) = refl
  nodes_in-numbered n (unit at items) = rw (nodes_in-all_numbered (n + 1) items) refl

  -- and so has a list of trees
  pub nodes_in-all_numbered : (n : ℕ) (ts : Trees) → nodes_in_all (all_numbered n ts) ≡ nodes_in_all ts
  nodes_in-all_numbered n no_more = refl
  nodes_in-all_numbered n (more first rest) = rw (nodes_in-numbered n first, nodes_in-all_numbered (n + nodes_in first) rest) refl

  -- and a part
  pub nodes_in-part_numbered : (n : ℕ) (p : Part) → nodes_in_part (part_numbered n p) ≡ nodes_in_part p
  nodes_in-part_numbered n absent = refl
  nodes_in-part_numbered n (present tree) = nodes_in-numbered n tree

mutual
  -- the numbers that a tree had do not matter: it may be numbered again
  pub numbered-numbered : (n m : ℕ) (t : Tree) → numbered n (numbered m t) ≡ numbered n t
  numbered-numbered n m (void_type at) = refl
  numbered-numbered n m (named_type at prefix name arguments nullable) = rw (part_numbered-part_numbered (n + 1) (m + 1) arguments) refl
  numbered-numbered n m (function_type at result type_parameters parameters optional nullable) = rw (
    nodes_in-part_numbered (m + 1) result,
    nodes_in-all_numbered (m + 1 + nodes_in_part result) type_parameters,
    nodes_in-all_numbered (m + 1 + nodes_in_part result + nodes_in_all type_parameters) parameters,
    part_numbered-part_numbered (n + 1) (m + 1) result,
    all_numbered-all_numbered (n + 1 + nodes_in_part result) (m + 1 + nodes_in_part result) type_parameters,
    all_numbered-all_numbered (n + 1 + nodes_in_part result + nodes_in_all type_parameters) (m + 1 + nodes_in_part result + nodes_in_all type_parameters) parameters,
    all_numbered-all_numbered (n + 1 + nodes_in_part result + nodes_in_all type_parameters + nodes_in_all parameters) (m + 1 + nodes_in_part result + nodes_in_all type_parameters + nodes_in_all parameters) optional,
  ) refl
  numbered-numbered n m (type_argument_list at types) = rw (all_numbered-all_numbered (n + 1) (m + 1) types) refl
  numbered-numbered n m (type_parameter at name bound) = rw (part_numbered-part_numbered (n + 1 + 1) (m + 1 + 1) bound) refl
  numbered-numbered n m (parameter_type at written name) = rw (numbered-numbered (n + 1) (m + 1) written) refl
  numbered-numbered n m (integer_literal at word) = refl
  numbered-numbered n m (string_literal at strings) = rw (all_numbered-all_numbered (n + 1) (m + 1) strings) refl
  numbered-numbered n m (boolean_literal at value) = refl
  numbered-numbered n m (null_literal at) = refl
  numbered-numbered n m (this_expression at) = refl
  numbered-numbered n m (super_expression at) = refl
  numbered-numbered n m (identifier at word) = refl
  numbered-numbered n m (parenthesis at inner) = rw (numbered-numbered (n + 1) (m + 1) inner) refl
  numbered-numbered n m (new_expression at written name arguments) = rw (
    nodes_in-numbered (m + 1) written,
    numbered-numbered (n + 1) (m + 1) written,
    numbered-numbered (n + 1 + nodes_in written) (m + 1 + nodes_in written) arguments,
  ) refl
  numbered-numbered n m (list_literal at type_arguments elements) = rw (
    nodes_in-part_numbered (m + 1) type_arguments,
    part_numbered-part_numbered (n + 1) (m + 1) type_arguments,
    all_numbered-all_numbered (n + 1 + nodes_in_part type_arguments) (m + 1 + nodes_in_part type_arguments) elements,
  ) refl
  numbered-numbered n m (set_or_map_literal at type_arguments entries) = rw (
    nodes_in-part_numbered (m + 1) type_arguments,
    part_numbered-part_numbered (n + 1) (m + 1) type_arguments,
    all_numbered-all_numbered (n + 1 + nodes_in_part type_arguments) (m + 1 + nodes_in_part type_arguments) entries,
  ) refl
  numbered-numbered n m (function_expression at parameters body) = rw (
    nodes_in-numbered (m + 1) parameters,
    numbered-numbered (n + 1) (m + 1) parameters,
    numbered-numbered (n + 1 + nodes_in parameters) (m + 1 + nodes_in parameters) body,
  ) refl
  numbered-numbered n m (generic_identifier at name type_arguments) = rw (numbered-numbered (n + 1) (m + 1) type_arguments) refl
  numbered-numbered n m (property_access at receiver null_aware name) = rw (numbered-numbered (n + 1) (m + 1) receiver) refl
  numbered-numbered n m (index_expression at receiver null_aware bracket index) = rw (
    nodes_in-numbered (m + 1) receiver,
    numbered-numbered (n + 1) (m + 1) receiver,
    numbered-numbered (n + 1 + nodes_in receiver) (m + 1 + nodes_in receiver) index,
  ) refl
  numbered-numbered n m (null_check at operand) = rw (numbered-numbered (n + 1) (m + 1) operand) refl
  numbered-numbered n m (call at callee type_arguments arguments) = rw (
    nodes_in-numbered (m + 1) callee,
    nodes_in-part_numbered (m + 1 + nodes_in callee) type_arguments,
    numbered-numbered (n + 1) (m + 1) callee,
    part_numbered-part_numbered (n + 1 + nodes_in callee) (m + 1 + nodes_in callee) type_arguments,
    numbered-numbered (n + 1 + nodes_in callee + nodes_in_part type_arguments) (m + 1 + nodes_in callee + nodes_in_part type_arguments) arguments,
  ) refl
  numbered-numbered n m (unary_expression at operator operand) = rw (numbered-numbered (n + 1) (m + 1) operand) refl
  numbered-numbered n m (postfix_expression at operator operand) = rw (numbered-numbered (n + 1) (m + 1) operand) refl
  numbered-numbered n m (binary_expression at operator left right) = rw (
    nodes_in-numbered (m + 1) left,
    numbered-numbered (n + 1) (m + 1) left,
    numbered-numbered (n + 1 + nodes_in left) (m + 1 + nodes_in left) right,
  ) refl
  numbered-numbered n m (type_test at operand negated written) = rw (
    nodes_in-numbered (m + 1) operand,
    numbered-numbered (n + 1) (m + 1) operand,
    numbered-numbered (n + 1 + nodes_in operand) (m + 1 + nodes_in operand) written,
  ) refl
  numbered-numbered n m (type_cast at operand written) = rw (
    nodes_in-numbered (m + 1) operand,
    numbered-numbered (n + 1) (m + 1) operand,
    numbered-numbered (n + 1 + nodes_in operand) (m + 1 + nodes_in operand) written,
  ) refl
  numbered-numbered n m (conditional at condition then_value else_value) = rw (
    nodes_in-numbered (m + 1) condition,
    nodes_in-numbered (m + 1 + nodes_in condition) then_value,
    numbered-numbered (n + 1) (m + 1) condition,
    numbered-numbered (n + 1 + nodes_in condition) (m + 1 + nodes_in condition) then_value,
    numbered-numbered (n + 1 + nodes_in condition + nodes_in then_value) (m + 1 + nodes_in condition + nodes_in then_value) else_value,
  ) refl
  numbered-numbered n m (assignment at operator target value) = rw (
    nodes_in-numbered (m + 1) target,
    numbered-numbered (n + 1) (m + 1) target,
    numbered-numbered (n + 1 + nodes_in target) (m + 1 + nodes_in target) value,
  ) refl
  numbered-numbered n m (throw_expression at value) = rw (numbered-numbered (n + 1) (m + 1) value) refl
  numbered-numbered n m (cascade at receiver null_aware section) = rw (
    nodes_in-numbered (m + 1) receiver,
    numbered-numbered (n + 1) (m + 1) receiver,
    numbered-numbered (n + 1 + nodes_in receiver) (m + 1 + nodes_in receiver) section,
  ) refl
  numbered-numbered n m (cascaded_name at name) = refl
  numbered-numbered n m (cascaded_index at bracket index) = rw (numbered-numbered (n + 1) (m + 1) index) refl
  numbered-numbered n m (simple_string at kind word) = refl
  numbered-numbered n m (interpolated_string at elements) = rw (all_numbered-all_numbered (n + 1) (m + 1) elements) refl
  numbered-numbered n m (string_text at kind word) = refl
  numbered-numbered n m (string_interpolation at value) = rw (numbered-numbered (n + 1) (m + 1) value) refl
  numbered-numbered n m (map_entry at key value) = rw (
    nodes_in-numbered (m + 1) key,
    numbered-numbered (n + 1) (m + 1) key,
    part_numbered-part_numbered (n + 1 + nodes_in key) (m + 1 + nodes_in key) value,
  ) refl
  numbered-numbered n m (argument_list at arguments) = rw (all_numbered-all_numbered (n + 1) (m + 1) arguments) refl
  numbered-numbered n m (argument at name value) = rw (numbered-numbered (n + 1) (m + 1) value) refl
  numbered-numbered n m (annotation at name) = refl
  numbered-numbered n m (parameter_list at parameters) = rw (all_numbered-all_numbered (n + 1) (m + 1) parameters) refl
  numbered-numbered n m (parameter at metadata kind is_required is_final written is_field name default_value) = rw (
    nodes_in-all_numbered (m + 1) metadata,
    nodes_in-part_numbered (m + 1 + nodes_in_all metadata) written,
    all_numbered-all_numbered (n + 1) (m + 1) metadata,
    part_numbered-part_numbered (n + 1 + nodes_in_all metadata) (m + 1 + nodes_in_all metadata) written,
    part_numbered-part_numbered (n + 1 + nodes_in_all metadata + nodes_in_part written + 1) (m + 1 + nodes_in_all metadata + nodes_in_part written + 1) default_value,
  ) refl
  numbered-numbered n m (expression_body at value) = rw (numbered-numbered (n + 1) (m + 1) value) refl
  numbered-numbered n m (empty_body at) = refl
  numbered-numbered n m (native_body at) = refl
  numbered-numbered n m (getter at result name body) = rw (
    nodes_in-part_numbered (m + 1) result,
    part_numbered-part_numbered (n + 1) (m + 1) result,
    numbered-numbered (n + 1 + nodes_in_part result + 1) (m + 1 + nodes_in_part result + 1) body,
  ) refl
  numbered-numbered n m (setter at result name parameters body) = rw (
    nodes_in-part_numbered (m + 1) result,
    nodes_in-numbered (m + 1 + nodes_in_part result + 1) parameters,
    part_numbered-part_numbered (n + 1) (m + 1) result,
    numbered-numbered (n + 1 + nodes_in_part result + 1) (m + 1 + nodes_in_part result + 1) parameters,
    numbered-numbered (n + 1 + nodes_in_part result + 1 + nodes_in parameters) (m + 1 + nodes_in_part result + 1 + nodes_in parameters) body,
  ) refl
  numbered-numbered n m (plain_function at result name type_parameters parameters body) = rw (
    nodes_in-part_numbered (m + 1) result,
    nodes_in-all_numbered (m + 1 + nodes_in_part result + 1) type_parameters,
    nodes_in-numbered (m + 1 + nodes_in_part result + 1 + nodes_in_all type_parameters) parameters,
    part_numbered-part_numbered (n + 1) (m + 1) result,
    all_numbered-all_numbered (n + 1 + nodes_in_part result + 1) (m + 1 + nodes_in_part result + 1) type_parameters,
    numbered-numbered (n + 1 + nodes_in_part result + 1 + nodes_in_all type_parameters) (m + 1 + nodes_in_part result + 1 + nodes_in_all type_parameters) parameters,
    numbered-numbered (n + 1 + nodes_in_part result + 1 + nodes_in_all type_parameters + nodes_in parameters) (m + 1 + nodes_in_part result + 1 + nodes_in_all type_parameters + nodes_in parameters) body,
  ) refl
  numbered-numbered n m (variable_list at is_final written variables) = rw (
    nodes_in-part_numbered (m + 1) written,
    part_numbered-part_numbered (n + 1) (m + 1) written,
    all_numbered-all_numbered (n + 1 + nodes_in_part written) (m + 1 + nodes_in_part written) variables,
  ) refl
  numbered-numbered n m (variable at name initializer) = rw (part_numbered-part_numbered (n + 1 + 1) (m + 1 + 1) initializer) refl
  numbered-numbered n m (block at statements) = rw (all_numbered-all_numbered (n + 1) (m + 1) statements) refl
  numbered-numbered n m (variable_statement at variables) = rw (numbered-numbered (n + 1) (m + 1) variables) refl
  numbered-numbered n m (function_statement at function) = rw (numbered-numbered (n + 1) (m + 1) function) refl
  numbered-numbered n m (expression_statement at value) = rw (part_numbered-part_numbered (n + 1) (m + 1) value) refl
  numbered-numbered n m (if_statement at condition then_branch else_branch) = rw (
    nodes_in-numbered (m + 1) condition,
    nodes_in-numbered (m + 1 + nodes_in condition) then_branch,
    numbered-numbered (n + 1) (m + 1) condition,
    numbered-numbered (n + 1 + nodes_in condition) (m + 1 + nodes_in condition) then_branch,
    part_numbered-part_numbered (n + 1 + nodes_in condition + nodes_in then_branch) (m + 1 + nodes_in condition + nodes_in then_branch) else_branch,
  ) refl
  numbered-numbered n m (while_statement at condition body) = rw (
    nodes_in-numbered (m + 1) condition,
    numbered-numbered (n + 1) (m + 1) condition,
    numbered-numbered (n + 1 + nodes_in condition) (m + 1 + nodes_in condition) body,
  ) refl
  numbered-numbered n m (do_statement at body condition) = rw (
    nodes_in-numbered (m + 1) body,
    numbered-numbered (n + 1) (m + 1) body,
    numbered-numbered (n + 1 + nodes_in body) (m + 1 + nodes_in body) condition,
  ) refl
  numbered-numbered n m (for_statement at initializer condition updates body) = rw (
    nodes_in-part_numbered (m + 1) initializer,
    nodes_in-part_numbered (m + 1 + nodes_in_part initializer) condition,
    nodes_in-all_numbered (m + 1 + nodes_in_part initializer + nodes_in_part condition) updates,
    part_numbered-part_numbered (n + 1) (m + 1) initializer,
    part_numbered-part_numbered (n + 1 + nodes_in_part initializer) (m + 1 + nodes_in_part initializer) condition,
    all_numbered-all_numbered (n + 1 + nodes_in_part initializer + nodes_in_part condition) (m + 1 + nodes_in_part initializer + nodes_in_part condition) updates,
    numbered-numbered (n + 1 + nodes_in_part initializer + nodes_in_part condition + nodes_in_all updates) (m + 1 + nodes_in_part initializer + nodes_in_part condition + nodes_in_all updates) body,
  ) refl
  numbered-numbered n m (for_in_statement at is_final written name iterable body) = rw (
    nodes_in-part_numbered (m + 1) written,
    nodes_in-numbered (m + 1 + nodes_in_part written + 1) iterable,
    part_numbered-part_numbered (n + 1) (m + 1) written,
    numbered-numbered (n + 1 + nodes_in_part written + 1) (m + 1 + nodes_in_part written + 1) iterable,
    numbered-numbered (n + 1 + nodes_in_part written + 1 + nodes_in iterable) (m + 1 + nodes_in_part written + 1 + nodes_in iterable) body,
  ) refl
  numbered-numbered n m (for_in_assignment at name iterable body) = rw (
    nodes_in-numbered (m + 1 + 1) iterable,
    numbered-numbered (n + 1 + 1) (m + 1 + 1) iterable,
    numbered-numbered (n + 1 + 1 + nodes_in iterable) (m + 1 + 1 + nodes_in iterable) body,
  ) refl
  numbered-numbered n m (switch_statement at value cases) = rw (
    nodes_in-numbered (m + 1) value,
    numbered-numbered (n + 1) (m + 1) value,
    all_numbered-all_numbered (n + 1 + nodes_in value) (m + 1 + nodes_in value) cases,
  ) refl
  numbered-numbered n m (switch_case at labels is_default statements) = rw (
    nodes_in-all_numbered (m + 1) labels,
    all_numbered-all_numbered (n + 1) (m + 1) labels,
    all_numbered-all_numbered (n + 1 + nodes_in_all labels) (m + 1 + nodes_in_all labels) statements,
  ) refl
  numbered-numbered n m (try_statement at body handlers finally_block) = rw (
    nodes_in-numbered (m + 1) body,
    nodes_in-all_numbered (m + 1 + nodes_in body) handlers,
    numbered-numbered (n + 1) (m + 1) body,
    all_numbered-all_numbered (n + 1 + nodes_in body) (m + 1 + nodes_in body) handlers,
    part_numbered-part_numbered (n + 1 + nodes_in body + nodes_in_all handlers) (m + 1 + nodes_in body + nodes_in_all handlers) finally_block,
  ) refl
  numbered-numbered n m (catch_clause at written exception stack_trace body) = rw (
    nodes_in-part_numbered (m + 1) written,
    nodes_in-part_numbered (m + 1 + nodes_in_part written) exception,
    nodes_in-part_numbered (m + 1 + nodes_in_part written + nodes_in_part exception) stack_trace,
    part_numbered-part_numbered (n + 1) (m + 1) written,
    part_numbered-part_numbered (n + 1 + nodes_in_part written) (m + 1 + nodes_in_part written) exception,
    part_numbered-part_numbered (n + 1 + nodes_in_part written + nodes_in_part exception) (m + 1 + nodes_in_part written + nodes_in_part exception) stack_trace,
    numbered-numbered (n + 1 + nodes_in_part written + nodes_in_part exception + nodes_in_part stack_trace) (m + 1 + nodes_in_part written + nodes_in_part exception + nodes_in_part stack_trace) body,
  ) refl
  numbered-numbered n m (return_statement at value) = rw (part_numbered-part_numbered (n + 1) (m + 1) value) refl
  numbered-numbered n m (break_statement at label) = refl
  numbered-numbered n m (continue_statement at label) = refl
  numbered-numbered n m (rethrow_statement at) = refl
  numbered-numbered n m (labeled_statement at label body) = rw (numbered-numbered (n + 1 + 1) (m + 1 + 1) body) refl
  numbered-numbered n m (constructor_declaration at metadata name parameters initializers body) = rw (
    nodes_in-all_numbered (m + 1) metadata,
    nodes_in-numbered (m + 1 + nodes_in_all metadata + 1) parameters,
    nodes_in-all_numbered (m + 1 + nodes_in_all metadata + 1 + nodes_in parameters) initializers,
    all_numbered-all_numbered (n + 1) (m + 1) metadata,
    numbered-numbered (n + 1 + nodes_in_all metadata + 1) (m + 1 + nodes_in_all metadata + 1) parameters,
    all_numbered-all_numbered (n + 1 + nodes_in_all metadata + 1 + nodes_in parameters) (m + 1 + nodes_in_all metadata + 1 + nodes_in parameters) initializers,
    numbered-numbered (n + 1 + nodes_in_all metadata + 1 + nodes_in parameters + nodes_in_all initializers) (m + 1 + nodes_in_all metadata + 1 + nodes_in parameters + nodes_in_all initializers) body,
  ) refl
  numbered-numbered n m (factory_declaration at metadata name parameters body) = rw (
    nodes_in-all_numbered (m + 1) metadata,
    nodes_in-numbered (m + 1 + nodes_in_all metadata + 1) parameters,
    all_numbered-all_numbered (n + 1) (m + 1) metadata,
    numbered-numbered (n + 1 + nodes_in_all metadata + 1) (m + 1 + nodes_in_all metadata + 1) parameters,
    numbered-numbered (n + 1 + nodes_in_all metadata + 1 + nodes_in parameters) (m + 1 + nodes_in_all metadata + 1 + nodes_in parameters) body,
  ) refl
  numbered-numbered n m (method_declaration at metadata is_static function) = rw (
    nodes_in-all_numbered (m + 1) metadata,
    all_numbered-all_numbered (n + 1) (m + 1) metadata,
    numbered-numbered (n + 1 + nodes_in_all metadata) (m + 1 + nodes_in_all metadata) function,
  ) refl
  numbered-numbered n m (field_declaration at metadata is_static variables) = rw (
    nodes_in-all_numbered (m + 1) metadata,
    all_numbered-all_numbered (n + 1) (m + 1) metadata,
    numbered-numbered (n + 1 + nodes_in_all metadata) (m + 1 + nodes_in_all metadata) variables,
  ) refl
  numbered-numbered n m (operator_declaration at metadata result name parameters body) = rw (
    nodes_in-all_numbered (m + 1) metadata,
    nodes_in-part_numbered (m + 1 + nodes_in_all metadata) result,
    nodes_in-numbered (m + 1 + nodes_in_all metadata + nodes_in_part result + 1) parameters,
    all_numbered-all_numbered (n + 1) (m + 1) metadata,
    part_numbered-part_numbered (n + 1 + nodes_in_all metadata) (m + 1 + nodes_in_all metadata) result,
    numbered-numbered (n + 1 + nodes_in_all metadata + nodes_in_part result + 1) (m + 1 + nodes_in_all metadata + nodes_in_part result + 1) parameters,
    numbered-numbered (n + 1 + nodes_in_all metadata + nodes_in_part result + 1 + nodes_in parameters) (m + 1 + nodes_in_all metadata + nodes_in_part result + 1 + nodes_in parameters) body,
  ) refl
  numbered-numbered n m (field_initializer at name value) = rw (numbered-numbered (n + 1) (m + 1) value) refl
  numbered-numbered n m (super_initializer at name arguments) = rw (numbered-numbered (n + 1) (m + 1) arguments) refl
  numbered-numbered n m (redirection at name arguments) = rw (numbered-numbered (n + 1) (m + 1) arguments) refl
  numbered-numbered n m (class_declaration at metadata is_abstract name type_parameters superclass mixins interfaces members) = rw (
    nodes_in-all_numbered (m + 1) metadata,
    nodes_in-all_numbered (m + 1 + nodes_in_all metadata + 1) type_parameters,
    nodes_in-part_numbered (m + 1 + nodes_in_all metadata + 1 + nodes_in_all type_parameters) superclass,
    nodes_in-all_numbered (m + 1 + nodes_in_all metadata + 1 + nodes_in_all type_parameters + nodes_in_part superclass) mixins,
    nodes_in-all_numbered (m + 1 + nodes_in_all metadata + 1 + nodes_in_all type_parameters + nodes_in_part superclass + nodes_in_all mixins) interfaces,
    all_numbered-all_numbered (n + 1) (m + 1) metadata,
    all_numbered-all_numbered (n + 1 + nodes_in_all metadata + 1) (m + 1 + nodes_in_all metadata + 1) type_parameters,
    part_numbered-part_numbered (n + 1 + nodes_in_all metadata + 1 + nodes_in_all type_parameters) (m + 1 + nodes_in_all metadata + 1 + nodes_in_all type_parameters) superclass,
    all_numbered-all_numbered (n + 1 + nodes_in_all metadata + 1 + nodes_in_all type_parameters + nodes_in_part superclass) (m + 1 + nodes_in_all metadata + 1 + nodes_in_all type_parameters + nodes_in_part superclass) mixins,
    all_numbered-all_numbered (n + 1 + nodes_in_all metadata + 1 + nodes_in_all type_parameters + nodes_in_part superclass + nodes_in_all mixins) (m + 1 + nodes_in_all metadata + 1 + nodes_in_all type_parameters + nodes_in_part superclass + nodes_in_all mixins) interfaces,
    all_numbered-all_numbered (n + 1 + nodes_in_all metadata + 1 + nodes_in_all type_parameters + nodes_in_part superclass + nodes_in_all mixins + nodes_in_all interfaces) (m + 1 + nodes_in_all metadata + 1 + nodes_in_all type_parameters + nodes_in_part superclass + nodes_in_all mixins + nodes_in_all interfaces) members,
  ) refl
  numbered-numbered n m (mixin_declaration at metadata name type_parameters constraints interfaces members) = rw (
    nodes_in-all_numbered (m + 1) metadata,
    nodes_in-all_numbered (m + 1 + nodes_in_all metadata + 1) type_parameters,
    nodes_in-all_numbered (m + 1 + nodes_in_all metadata + 1 + nodes_in_all type_parameters) constraints,
    nodes_in-all_numbered (m + 1 + nodes_in_all metadata + 1 + nodes_in_all type_parameters + nodes_in_all constraints) interfaces,
    all_numbered-all_numbered (n + 1) (m + 1) metadata,
    all_numbered-all_numbered (n + 1 + nodes_in_all metadata + 1) (m + 1 + nodes_in_all metadata + 1) type_parameters,
    all_numbered-all_numbered (n + 1 + nodes_in_all metadata + 1 + nodes_in_all type_parameters) (m + 1 + nodes_in_all metadata + 1 + nodes_in_all type_parameters) constraints,
    all_numbered-all_numbered (n + 1 + nodes_in_all metadata + 1 + nodes_in_all type_parameters + nodes_in_all constraints) (m + 1 + nodes_in_all metadata + 1 + nodes_in_all type_parameters + nodes_in_all constraints) interfaces,
    all_numbered-all_numbered (n + 1 + nodes_in_all metadata + 1 + nodes_in_all type_parameters + nodes_in_all constraints + nodes_in_all interfaces) (m + 1 + nodes_in_all metadata + 1 + nodes_in_all type_parameters + nodes_in_all constraints + nodes_in_all interfaces) members,
  ) refl
  numbered-numbered n m (type_alias at metadata name written) = rw (
    nodes_in-all_numbered (m + 1) metadata,
    all_numbered-all_numbered (n + 1) (m + 1) metadata,
    numbered-numbered (n + 1 + nodes_in_all metadata + 1) (m + 1 + nodes_in_all metadata + 1) written,
  ) refl
  numbered-numbered n m (function_declaration at metadata function) = rw (
    nodes_in-all_numbered (m + 1) metadata,
    all_numbered-all_numbered (n + 1) (m + 1) metadata,
    numbered-numbered (n + 1 + nodes_in_all metadata) (m + 1 + nodes_in_all metadata) function,
  ) refl
  numbered-numbered n m (variable_declaration at metadata variables) = rw (
    nodes_in-all_numbered (m + 1) metadata,
    all_numbered-all_numbered (n + 1) (m + 1) metadata,
    numbered-numbered (n + 1 + nodes_in_all metadata) (m + 1 + nodes_in_all metadata) variables,
  ) refl
  numbered-numbered n m (library_directive at names) = rw (all_numbered-all_numbered (n + 1) (m + 1) names) refl
  numbered-numbered n m (import_directive at uri prefix combinators) = rw (
    nodes_in-numbered (m + 1) uri,
    nodes_in-part_numbered (m + 1 + nodes_in uri) prefix,
    numbered-numbered (n + 1) (m + 1) uri,
    part_numbered-part_numbered (n + 1 + nodes_in uri) (m + 1 + nodes_in uri) prefix,
    all_numbered-all_numbered (n + 1 + nodes_in uri + nodes_in_part prefix) (m + 1 + nodes_in uri + nodes_in_part prefix) combinators,
  ) refl
  numbered-numbered n m (export_directive at uri combinators) = rw (
    nodes_in-numbered (m + 1) uri,
    numbered-numbered (n + 1) (m + 1) uri,
    all_numbered-all_numbered (n + 1 + nodes_in uri) (m + 1 + nodes_in uri) combinators,
  ) refl
  numbered-numbered n m (part_directive at uri) = rw (numbered-numbered (n + 1) (m + 1) uri) refl
  numbered-numbered n m (part_of_directive at uri) = rw (numbered-numbered (n + 1) (m + 1) uri) refl
  numbered-numbered n m (part_of_library_directive at names) = rw (all_numbered-all_numbered (n + 1) (m + 1) names) refl
  numbered-numbered n m (show_combinator at names) = rw (all_numbered-all_numbered (n + 1) (m + 1) names) refl
  numbered-numbered n m (hide_combinator at names) = rw (all_numbered-all_numbered (n + 1) (m + 1) names) refl
  numbered-numbered n m (listed_name at word) = refl
  numbered-numbered n m (error_node at) = refl
  numbered-numbered n m (unit at items) = rw (all_numbered-all_numbered (n + 1) (m + 1) items) refl

  -- and so may a list of trees
  pub all_numbered-all_numbered : (n m : ℕ) (ts : Trees) → all_numbered n (all_numbered m ts) ≡ all_numbered n ts
  all_numbered-all_numbered n m no_more = refl
  all_numbered-all_numbered n m (more first rest) =
      rw (nodes_in-numbered m first, numbered-numbered n m first, all_numbered-all_numbered (n + nodes_in first) (m + nodes_in first) rest) refl

  -- and a part
  pub part_numbered-part_numbered : (n m : ℕ) (p : Part) → part_numbered n (part_numbered m p) ≡ part_numbered n p
  part_numbered-part_numbered n m absent = refl
  part_numbered-part_numbered n m (present tree) = ap present (numbered-numbered n m tree)
