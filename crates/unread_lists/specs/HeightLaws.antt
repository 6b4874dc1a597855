-- A tree with its lists read is no higher than there is room for it.
use Rattle.std.specs.Prelude.{◌≤◌, ℕ, suc, ◌-◌}
use Rattle.std.proofs.Common.{arith}
use Rattle.dart_tree.specs.Tree.{Tree, Trees, Part, no_more, more, absent, present, void_type, named_type, function_type, type_argument_list, type_parameter, parameter_type, integer_literal, string_literal, boolean_literal, null_literal, this_expression, super_expression, identifier, parenthesis, new_expression, list_literal, set_or_map_literal, function_expression, generic_identifier, property_access, index_expression, null_check, call, unary_expression, postfix_expression, binary_expression, type_test, type_cast, conditional, assignment, throw_expression, cascade, cascaded_name, cascaded_index, simple_string, interpolated_string, string_text, string_interpolation, map_entry, argument_list, argument, annotation, parameter_list, parameter, expression_body, empty_body, native_body, getter, setter, plain_function, variable_list, variable, block, variable_statement, function_statement, expression_statement, if_statement, while_statement, do_statement, for_statement, for_in_statement, for_in_assignment, switch_statement, switch_case, try_statement, catch_clause, return_statement, break_statement, continue_statement, rethrow_statement, labeled_statement, constructor_declaration, factory_declaration, method_declaration, field_declaration, operator_declaration, field_initializer, super_initializer, redirection, class_declaration, mixin_declaration, type_alias, function_declaration, variable_declaration, library_directive, import_directive, export_directive, part_directive, part_of_directive, part_of_library_directive, show_combinator, hide_combinator, listed_name, error_node, unit}
use Rattle.dart_tree.specs.Heights.{higher, height, heights, height_of_part}
use Rattle.dart_tree.specs.Places.{place_of}
use Rattle.dart_tree.specs.declared.places.Place.{Place}
use Rattle.unread_lists.specs.WithLists.{list_read, with_lists, all_with_lists, part_with_lists}
use Rattle.unread_lists.specs.EachList.{FitTheirRoom}

-- what is at least the greater of two is at least the first,
higher-first : (a b n : ℕ) → higher a b ≤ n → a ≤ n
higher-first a b n h = grind arith

-- and at least the second
higher-second : (a b n : ℕ) → higher a b ≤ n → b ≤ n
higher-second a b n h = grind arith

-- and what is at least both is at least the greater
higher-both : (a b n : ℕ) → a ≤ n → b ≤ n → higher a b ≤ n
higher-both a b n h k = grind arith

-- of what counts, the parts have a room that is one less
within : (a n : ℕ) → suc a ≤ n → a ≤ n - 1
within a n h = omega arith

-- and with it they have that room
without : (a b n : ℕ) → suc a ≤ n → b ≤ n - 1 → suc b ≤ n
without a b n h k = omega arith

-- a list that is read
heights-list_read : (lists : ℕ → Place → Trees) → FitTheirRoom lists → (n : ℕ) (ts : Trees) → heights (list_read lists n ts) ≤ n
heights-list_read lists fit n no_more = omega arith
heights-list_read lists fit n (more first rest) = fit n (place_of first)

mutual
  -- a tree with its lists read is within the room that it was in before, where each of them is within its own
  pub height-with_lists : (lists : ℕ → Place → Trees) → FitTheirRoom lists → (n : ℕ) (t : Tree) → height t ≤ n → height (with_lists lists n t) ≤ n
  height-with_lists lists fit n (void_type at) h = h
  height-with_lists lists fit n (named_type at prefix name arguments nullable) h = without _ _ _ h (height_of_part-part_with_lists lists fit (n - 1) arguments (within _ _ h))
  height-with_lists lists fit n (function_type at result type_parameters parameters optional nullable) h = without _ _ _ h (higher-both _ _ _ (height_of_part-part_with_lists lists fit (n - 1) result (higher-first _ _ _ (within _ _ h))) (higher-both _ _ _ (heights-all_with_lists lists fit (n - 1) type_parameters (higher-first _ _ _ (higher-second _ _ _ (within _ _ h)))) (higher-both _ _ _ (heights-all_with_lists lists fit (n - 1) parameters (higher-first _ _ _ (higher-second _ _ _ (higher-second _ _ _ (within _ _ h))))) (heights-all_with_lists lists fit (n - 1) optional (higher-second _ _ _ (higher-second _ _ _ (higher-second _ _ _ (within _ _ h))))))))
  height-with_lists lists fit n (type_argument_list at types) h = heights-all_with_lists lists fit n types h
  height-with_lists lists fit n (type_parameter at name bound) h = height_of_part-part_with_lists lists fit n bound h
  height-with_lists lists fit n (parameter_type at written name) h = height-with_lists lists fit n written h
  height-with_lists lists fit n (integer_literal at word) h = h
  height-with_lists lists fit n (string_literal at strings) h = without _ _ _ h (heights-all_with_lists lists fit (n - 1) strings (within _ _ h))
  height-with_lists lists fit n (boolean_literal at value) h = h
  height-with_lists lists fit n (null_literal at) h = h
  height-with_lists lists fit n (this_expression at) h = h
  height-with_lists lists fit n (super_expression at) h = h
  height-with_lists lists fit n (identifier at word) h = h
  height-with_lists lists fit n (parenthesis at inner) h = without _ _ _ h (height-with_lists lists fit (n - 1) inner (within _ _ h))
  height-with_lists lists fit n (new_expression at written name arguments) h = without _ _ _ h (higher-both _ _ _ (height-with_lists lists fit (n - 1) written (higher-first _ _ _ (within _ _ h))) (height-with_lists lists fit (n - 1) arguments (higher-second _ _ _ (within _ _ h))))
  height-with_lists lists fit n (list_literal at type_arguments elements) h = without _ _ _ h (higher-both _ _ _ (height_of_part-part_with_lists lists fit (n - 1) type_arguments (higher-first _ _ _ (within _ _ h))) (heights-all_with_lists lists fit (n - 1) elements (higher-second _ _ _ (within _ _ h))))
  height-with_lists lists fit n (set_or_map_literal at type_arguments entries) h = without _ _ _ h (higher-both _ _ _ (height_of_part-part_with_lists lists fit (n - 1) type_arguments (higher-first _ _ _ (within _ _ h))) (heights-all_with_lists lists fit (n - 1) entries (higher-second _ _ _ (within _ _ h))))
  height-with_lists lists fit n (function_expression at parameters body) h = without _ _ _ h (higher-both _ _ _ (height-with_lists lists fit (n - 1) parameters (higher-first _ _ _ (within _ _ h))) (height-with_lists lists fit (n - 1) body (higher-second _ _ _ (within _ _ h))))
  height-with_lists lists fit n (generic_identifier at name type_arguments) h = without _ _ _ h (height-with_lists lists fit (n - 1) type_arguments (within _ _ h))
  height-with_lists lists fit n (property_access at receiver null_aware name) h = without _ _ _ h (height-with_lists lists fit (n - 1) receiver (within _ _ h))
  height-with_lists lists fit n (index_expression at receiver null_aware bracket index) h = without _ _ _ h (higher-both _ _ _ (height-with_lists lists fit (n - 1) receiver (higher-first _ _ _ (within _ _ h))) (height-with_lists lists fit (n - 1) index (higher-second _ _ _ (within _ _ h))))
  height-with_lists lists fit n (null_check at operand) h = without _ _ _ h (height-with_lists lists fit (n - 1) operand (within _ _ h))
  height-with_lists lists fit n (call at callee type_arguments arguments) h = without _ _ _ h (higher-both _ _ _ (height-with_lists lists fit (n - 1) callee (higher-first _ _ _ (within _ _ h))) (higher-both _ _ _ (height_of_part-part_with_lists lists fit (n - 1) type_arguments (higher-first _ _ _ (higher-second _ _ _ (within _ _ h)))) (height-with_lists lists fit (n - 1) arguments (higher-second _ _ _ (higher-second _ _ _ (within _ _ h))))))
  height-with_lists lists fit n (unary_expression at operator operand) h = without _ _ _ h (height-with_lists lists fit (n - 1) operand (within _ _ h))
  height-with_lists lists fit n (postfix_expression at operator operand) h = without _ _ _ h (height-with_lists lists fit (n - 1) operand (within _ _ h))
  height-with_lists lists fit n (binary_expression at operator left right) h = without _ _ _ h (higher-both _ _ _ (height-with_lists lists fit (n - 1) left (higher-first _ _ _ (within _ _ h))) (height-with_lists lists fit (n - 1) right (higher-second _ _ _ (within _ _ h))))
  height-with_lists lists fit n (type_test at operand negated written) h = without _ _ _ h (higher-both _ _ _ (height-with_lists lists fit (n - 1) operand (higher-first _ _ _ (within _ _ h))) (height-with_lists lists fit (n - 1) written (higher-second _ _ _ (within _ _ h))))
  height-with_lists lists fit n (type_cast at operand written) h = without _ _ _ h (higher-both _ _ _ (height-with_lists lists fit (n - 1) operand (higher-first _ _ _ (within _ _ h))) (height-with_lists lists fit (n - 1) written (higher-second _ _ _ (within _ _ h))))
  height-with_lists lists fit n (conditional at condition then_value else_value) h = without _ _ _ h (higher-both _ _ _ (height-with_lists lists fit (n - 1) condition (higher-first _ _ _ (within _ _ h))) (higher-both _ _ _ (height-with_lists lists fit (n - 1) then_value (higher-first _ _ _ (higher-second _ _ _ (within _ _ h)))) (height-with_lists lists fit (n - 1) else_value (higher-second _ _ _ (higher-second _ _ _ (within _ _ h))))))
  height-with_lists lists fit n (assignment at operator target value) h = without _ _ _ h (higher-both _ _ _ (height-with_lists lists fit (n - 1) target (higher-first _ _ _ (within _ _ h))) (height-with_lists lists fit (n - 1) value (higher-second _ _ _ (within _ _ h))))
  height-with_lists lists fit n (throw_expression at value) h = without _ _ _ h (height-with_lists lists fit (n - 1) value (within _ _ h))
  height-with_lists lists fit n (cascade at receiver null_aware section) h = without _ _ _ h (higher-both _ _ _ (height-with_lists lists fit (n - 1) receiver (higher-first _ _ _ (within _ _ h))) (height-with_lists lists fit (n - 1) section (higher-second _ _ _ (within _ _ h))))
  height-with_lists lists fit n (cascaded_name at name) h = h
  height-with_lists lists fit n (cascaded_index at bracket index) h = height-with_lists lists fit n index h
  height-with_lists lists fit n (simple_string at kind word) h = h
  height-with_lists lists fit n (interpolated_string at elements) h = heights-all_with_lists lists fit n elements h
  height-with_lists lists fit n (string_text at kind word) h = h
  height-with_lists lists fit n (string_interpolation at value) h = height-with_lists lists fit n value h
  height-with_lists lists fit n (map_entry at key value) h = higher-both _ _ _ (height-with_lists lists fit n key (higher-first _ _ _ h)) (height_of_part-part_with_lists lists fit n value (higher-second _ _ _ h))
  height-with_lists lists fit n (argument_list at arguments) h = heights-all_with_lists lists fit n arguments h
  height-with_lists lists fit n (argument at name value) h = height-with_lists lists fit n value h
  height-with_lists lists fit n (annotation at name) h = h
  height-with_lists lists fit n (parameter_list at parameters) h = heights-all_with_lists lists fit n parameters h
  height-with_lists lists fit n (parameter at metadata kind is_required is_final written is_field name default_value) h = higher-both _ _ _ (height_of_part-part_with_lists lists fit n written (higher-first _ _ _ h)) (height_of_part-part_with_lists lists fit n default_value (higher-second _ _ _ h))
  height-with_lists lists fit n (expression_body at value) h = height-with_lists lists fit n value h
  height-with_lists lists fit n (empty_body at) h = h
  height-with_lists lists fit n (native_body at) h = h
  height-with_lists lists fit n (getter at result name body) h = higher-both _ _ _ (height_of_part-part_with_lists lists fit n result (higher-first _ _ _ h)) (height-with_lists lists fit n body (higher-second _ _ _ h))
  height-with_lists lists fit n (setter at result name parameters body) h = higher-both _ _ _ (height_of_part-part_with_lists lists fit n result (higher-first _ _ _ h)) (higher-both _ _ _ (height-with_lists lists fit n parameters (higher-first _ _ _ (higher-second _ _ _ h))) (height-with_lists lists fit n body (higher-second _ _ _ (higher-second _ _ _ h))))
  height-with_lists lists fit n (plain_function at result name type_parameters parameters body) h = higher-both _ _ _ (height_of_part-part_with_lists lists fit n result (higher-first _ _ _ h)) (higher-both _ _ _ (heights-all_with_lists lists fit n type_parameters (higher-first _ _ _ (higher-second _ _ _ h))) (higher-both _ _ _ (height-with_lists lists fit n parameters (higher-first _ _ _ (higher-second _ _ _ (higher-second _ _ _ h)))) (height-with_lists lists fit n body (higher-second _ _ _ (higher-second _ _ _ (higher-second _ _ _ h))))))
  height-with_lists lists fit n (variable_list at is_final written variables) h = higher-both _ _ _ (height_of_part-part_with_lists lists fit n written (higher-first _ _ _ h)) (heights-all_with_lists lists fit n variables (higher-second _ _ _ h))
  height-with_lists lists fit n (variable at name initializer) h = height_of_part-part_with_lists lists fit n initializer h
  height-with_lists lists fit n (block at statements) h = without _ _ _ h (heights-list_read lists fit (n - 1) statements)
  height-with_lists lists fit n (variable_statement at variables) h = without _ _ _ h (height-with_lists lists fit (n - 1) variables (within _ _ h))
  height-with_lists lists fit n (function_statement at function) h = without _ _ _ h (height-with_lists lists fit (n - 1) function (within _ _ h))
  height-with_lists lists fit n (expression_statement at value) h = without _ _ _ h (height_of_part-part_with_lists lists fit (n - 1) value (within _ _ h))
  height-with_lists lists fit n (if_statement at condition then_branch else_branch) h = without _ _ _ h (higher-both _ _ _ (height-with_lists lists fit (n - 1) condition (higher-first _ _ _ (within _ _ h))) (higher-both _ _ _ (height-with_lists lists fit (n - 1) then_branch (higher-first _ _ _ (higher-second _ _ _ (within _ _ h)))) (height_of_part-part_with_lists lists fit (n - 1) else_branch (higher-second _ _ _ (higher-second _ _ _ (within _ _ h))))))
  height-with_lists lists fit n (while_statement at condition body) h = without _ _ _ h (higher-both _ _ _ (height-with_lists lists fit (n - 1) condition (higher-first _ _ _ (within _ _ h))) (height-with_lists lists fit (n - 1) body (higher-second _ _ _ (within _ _ h))))
  height-with_lists lists fit n (do_statement at body condition) h = without _ _ _ h (higher-both _ _ _ (height-with_lists lists fit (n - 1) body (higher-first _ _ _ (within _ _ h))) (height-with_lists lists fit (n - 1) condition (higher-second _ _ _ (within _ _ h))))
  height-with_lists lists fit n (for_statement at initializer condition updates body) h = without _ _ _ h (higher-both _ _ _ (height_of_part-part_with_lists lists fit (n - 1) initializer (higher-first _ _ _ (within _ _ h))) (higher-both _ _ _ (height_of_part-part_with_lists lists fit (n - 1) condition (higher-first _ _ _ (higher-second _ _ _ (within _ _ h)))) (higher-both _ _ _ (heights-all_with_lists lists fit (n - 1) updates (higher-first _ _ _ (higher-second _ _ _ (higher-second _ _ _ (within _ _ h))))) (height-with_lists lists fit (n - 1) body (higher-second _ _ _ (higher-second _ _ _ (higher-second _ _ _ (within _ _ h))))))))
  height-with_lists lists fit n (for_in_statement at is_final written name iterable body) h = without _ _ _ h (higher-both _ _ _ (height_of_part-part_with_lists lists fit (n - 1) written (higher-first _ _ _ (within _ _ h))) (higher-both _ _ _ (height-with_lists lists fit (n - 1) iterable (higher-first _ _ _ (higher-second _ _ _ (within _ _ h)))) (height-with_lists lists fit (n - 1) body (higher-second _ _ _ (higher-second _ _ _ (within _ _ h))))))
  height-with_lists lists fit n (for_in_assignment at name iterable body) h = without _ _ _ h (higher-both _ _ _ (height-with_lists lists fit (n - 1) iterable (higher-first _ _ _ (within _ _ h))) (height-with_lists lists fit (n - 1) body (higher-second _ _ _ (within _ _ h))))
  height-with_lists lists fit n (switch_statement at value cases) h = without _ _ _ h (higher-both _ _ _ (height-with_lists lists fit (n - 1) value (higher-first _ _ _ (within _ _ h))) (heights-all_with_lists lists fit (n - 1) cases (higher-second _ _ _ (within _ _ h))))
  height-with_lists lists fit n (switch_case at labels is_default statements) h = higher-both _ _ _ (heights-all_with_lists lists fit n labels (higher-first _ _ _ h)) (heights-list_read lists fit n statements)
  height-with_lists lists fit n (try_statement at body handlers finally_block) h = without _ _ _ h (higher-both _ _ _ (height-with_lists lists fit (n - 1) body (higher-first _ _ _ (within _ _ h))) (higher-both _ _ _ (heights-all_with_lists lists fit (n - 1) handlers (higher-first _ _ _ (higher-second _ _ _ (within _ _ h)))) (height_of_part-part_with_lists lists fit (n - 1) finally_block (higher-second _ _ _ (higher-second _ _ _ (within _ _ h))))))
  height-with_lists lists fit n (catch_clause at written exception stack_trace body) h = higher-both _ _ _ (height_of_part-part_with_lists lists fit n written (higher-first _ _ _ h)) (height-with_lists lists fit n body (higher-second _ _ _ h))
  height-with_lists lists fit n (return_statement at value) h = without _ _ _ h (height_of_part-part_with_lists lists fit (n - 1) value (within _ _ h))
  height-with_lists lists fit n (break_statement at label) h = h
  height-with_lists lists fit n (continue_statement at label) h = h
  height-with_lists lists fit n (rethrow_statement at) h = h
  height-with_lists lists fit n (labeled_statement at label body) h = without _ _ _ h (height-with_lists lists fit (n - 1) body (within _ _ h))
  height-with_lists lists fit n (constructor_declaration at metadata name parameters initializers body) h = without _ _ _ h (higher-both _ _ _ (height-with_lists lists fit (n - 1) parameters (higher-first _ _ _ (within _ _ h))) (higher-both _ _ _ (heights-all_with_lists lists fit (n - 1) initializers (higher-first _ _ _ (higher-second _ _ _ (within _ _ h)))) (height-with_lists lists fit (n - 1) body (higher-second _ _ _ (higher-second _ _ _ (within _ _ h))))))
  height-with_lists lists fit n (factory_declaration at metadata name parameters body) h = without _ _ _ h (higher-both _ _ _ (height-with_lists lists fit (n - 1) parameters (higher-first _ _ _ (within _ _ h))) (height-with_lists lists fit (n - 1) body (higher-second _ _ _ (within _ _ h))))
  height-with_lists lists fit n (method_declaration at metadata is_static function) h = without _ _ _ h (height-with_lists lists fit (n - 1) function (within _ _ h))
  height-with_lists lists fit n (field_declaration at metadata is_static variables) h = without _ _ _ h (height-with_lists lists fit (n - 1) variables (within _ _ h))
  height-with_lists lists fit n (operator_declaration at metadata result name parameters body) h = without _ _ _ h (higher-both _ _ _ (height_of_part-part_with_lists lists fit (n - 1) result (higher-first _ _ _ (within _ _ h))) (higher-both _ _ _ (height-with_lists lists fit (n - 1) parameters (higher-first _ _ _ (higher-second _ _ _ (within _ _ h)))) (height-with_lists lists fit (n - 1) body (higher-second _ _ _ (higher-second _ _ _ (within _ _ h))))))
  height-with_lists lists fit n (field_initializer at name value) h = height-with_lists lists fit n value h
  height-with_lists lists fit n (super_initializer at name arguments) h = height-with_lists lists fit n arguments h
  height-with_lists lists fit n (redirection at name arguments) h = height-with_lists lists fit n arguments h
  height-with_lists lists fit n (class_declaration at metadata is_abstract name type_parameters superclass mixins interfaces members) h = without _ _ _ h (higher-both _ _ _ (heights-all_with_lists lists fit (n - 1) type_parameters (higher-first _ _ _ (within _ _ h))) (higher-both _ _ _ (height_of_part-part_with_lists lists fit (n - 1) superclass (higher-first _ _ _ (higher-second _ _ _ (within _ _ h)))) (higher-both _ _ _ (heights-all_with_lists lists fit (n - 1) mixins (higher-first _ _ _ (higher-second _ _ _ (higher-second _ _ _ (within _ _ h))))) (higher-both _ _ _ (heights-all_with_lists lists fit (n - 1) interfaces (higher-first _ _ _ (higher-second _ _ _ (higher-second _ _ _ (higher-second _ _ _ (within _ _ h)))))) (heights-all_with_lists lists fit (n - 1) members (higher-second _ _ _ (higher-second _ _ _ (higher-second _ _ _ (higher-second _ _ _ (within _ _ h))))))))))
  height-with_lists lists fit n (mixin_declaration at metadata name type_parameters constraints interfaces members) h = without _ _ _ h (higher-both _ _ _ (heights-all_with_lists lists fit (n - 1) type_parameters (higher-first _ _ _ (within _ _ h))) (higher-both _ _ _ (heights-all_with_lists lists fit (n - 1) constraints (higher-first _ _ _ (higher-second _ _ _ (within _ _ h)))) (higher-both _ _ _ (heights-all_with_lists lists fit (n - 1) interfaces (higher-first _ _ _ (higher-second _ _ _ (higher-second _ _ _ (within _ _ h))))) (heights-all_with_lists lists fit (n - 1) members (higher-second _ _ _ (higher-second _ _ _ (higher-second _ _ _ (within _ _ h))))))))
  height-with_lists lists fit n (type_alias at metadata name written) h = without _ _ _ h (height-with_lists lists fit (n - 1) written (within _ _ h))
  height-with_lists lists fit n (function_declaration at metadata function) h = without _ _ _ h (height-with_lists lists fit (n - 1) function (within _ _ h))
  height-with_lists lists fit n (variable_declaration at metadata variables) h = without _ _ _ h (height-with_lists lists fit (n - 1) variables (within _ _ h))
  height-with_lists lists fit n (library_directive at names) h = h
  height-with_lists lists fit n (import_directive at uri prefix combinators) h = without _ _ _ h (height-with_lists lists fit (n - 1) uri (within _ _ h))
  height-with_lists lists fit n (export_directive at uri combinators) h = without _ _ _ h (height-with_lists lists fit (n - 1) uri (within _ _ h))
  height-with_lists lists fit n (part_directive at uri) h = without _ _ _ h (height-with_lists lists fit (n - 1) uri (within _ _ h))
  height-with_lists lists fit n (part_of_directive at uri) h = without _ _ _ h (height-with_lists lists fit (n - 1) uri (within _ _ h))
  height-with_lists lists fit n (part_of_library_directive at names) h = h
  height-with_lists lists fit n (show_combinator at names) h = h
  height-with_lists lists fit n (hide_combinator at names) h = h
  height-with_lists lists fit n (listed_name at word) h = h
  height-with_lists lists fit n (error_node at) h = h
  height-with_lists lists fit n (unit at items) h = without _ _ _ h (heights-all_with_lists lists fit (n - 1) items (within _ _ h))

  -- so is a list of trees
  pub heights-all_with_lists : (lists : ℕ → Place → Trees) → FitTheirRoom lists → (n : ℕ) (ts : Trees) → heights ts ≤ n → heights (all_with_lists lists n ts) ≤ n
  heights-all_with_lists lists fit n no_more h = h
  heights-all_with_lists lists fit n (more first rest) h =
      higher-both _ _ _ (height-with_lists lists fit n first (higher-first _ _ _ h)) (heights-all_with_lists lists fit n rest (higher-second _ _ _ h))

  -- and a part
  pub height_of_part-part_with_lists : (lists : ℕ → Place → Trees) → FitTheirRoom lists → (n : ℕ) (p : Part) → height_of_part p ≤ n → height_of_part (part_with_lists lists n p) ≤ n
  height_of_part-part_with_lists lists fit n absent h = h
  height_of_part-part_with_lists lists fit n (present tree) h = height-with_lists lists fit n tree h
