-- In reading order the numbers of all nodes count up by one.
use Rattle.std.specs.Prelude.{◌≡◌, ℕ, zero, suc, ◌+◌, List, [], ◌∷◌, ◌++◌, length, map, refl}
use Rattle.std.specs.List.{range_with_len}
use Rattle.std.proofs.Common.{ap, arith, length-append}
use Rattle.dart_tree.specs.Tree.{Tree, Trees, Part, no_more, more, absent, present, void_type, named_type, function_type, type_argument_list, type_parameter, parameter_type, integer_literal, string_literal, boolean_literal, null_literal, this_expression, super_expression, identifier, parenthesis, new_expression, list_literal, set_or_map_literal, function_expression, generic_identifier, property_access, index_expression, null_check, call, unary_expression, postfix_expression, binary_expression, type_test, type_cast, conditional, assignment, throw_expression, cascade, cascaded_name, cascaded_index, simple_string, interpolated_string, string_text, string_interpolation, map_entry, argument_list, argument, annotation, parameter_list, parameter, expression_body, empty_body, native_body, getter, setter, plain_function, variable_list, variable, block, variable_statement, function_statement, expression_statement, if_statement, while_statement, do_statement, for_statement, for_in_statement, for_in_assignment, switch_statement, switch_case, try_statement, catch_clause, return_statement, break_statement, continue_statement, rethrow_statement, labeled_statement, constructor_declaration, factory_declaration, method_declaration, field_declaration, operator_declaration, field_initializer, super_initializer, redirection, class_declaration, mixin_declaration, type_alias, function_declaration, variable_declaration, library_directive, import_directive, export_directive, part_directive, part_of_directive, part_of_library_directive, show_combinator, hide_combinator, listed_name, error_node, unit}
use Rattle.dart_tree.specs.Places.{place_of}
use Rattle.dart_tree.specs.Numbers.{nodes_in, nodes_in_all, nodes_in_part, place_numbered, numbered, all_numbered, part_numbered, number_at, span_at, places_of, places_of_all, places_of_part, numbers_of, spans_of}
use Rattle.dart_tree.specs.declared.places.Place.{Place}
use Rattle.dart_tree.specs.declared.places.Span.{Span}

-- places with numbers that count up by one from the first given
abbrev places_from : ℕ → List Place → List Place
places_from n [] = []
places_from n (p ∷ ps) = place_numbered n p ∷ places_from (n + 1) ps

-- so two lists of places are numbered one behind the other
places_from-append : (n m : ℕ) (ps qs : List Place) → length ps ≡ m → places_from n (ps ++ qs) ≡ places_from n ps ++ places_from (n + m) qs
places_from-append n m [] qs e = let d : n + m ≡ n = omega (arith, e) in rw d refl
places_from-append n zero (p ∷ ps) qs e = absurd (omega (arith, e))
places_from-append n (suc m) (p ∷ ps) qs e =
    let d : n + suc m ≡ n + 1 + m = omega arith in
    let k : length ps ≡ m = omega (arith, e) in
    rw d (ap (λ (xs : List Place). place_numbered n p ∷ xs) (places_from-append (n + 1) m ps qs k))

-- their numbers count up by one
numbers-places_from : (n : ℕ) (ps : List Place) → map number_at (places_from n ps) ≡ range_with_len n (length ps)
numbers-places_from n [] = refl
numbers-places_from n (p ∷ ps) = ap (λ (xs : List ℕ). n ∷ xs) (numbers-places_from (n + 1) ps)

-- and their ranges stay
spans-places_from : (n : ℕ) (ps : List Place) → map span_at (places_from n ps) ≡ map span_at ps
spans-places_from n [] = refl
spans-places_from n (p ∷ ps) = ap (λ (xs : List Span). p.span ∷ xs) (spans-places_from (n + 1) ps)

mutual
  -- each node has a place, and so has each name that is declared or assigned
  pub length-places_of : (t : Tree) → length (places_of t) ≡ nodes_in t
  length-places_of (void_type at) = refl
  length-places_of (named_type at prefix name arguments nullable) = omega (arith, length-places_of_part arguments)
  length-places_of (function_type at result type_parameters parameters optional nullable) = simp length-append (omega (arith, length-places_of_part result, length-places_of_all type_parameters, length-places_of_all parameters, length-places_of_all optional))
  length-places_of (type_argument_list at types) = omega (arith, length-places_of_all types)
  length-places_of (type_parameter at name bound) = omega (arith, length-places_of_part bound)
  length-places_of (parameter_type at written name) = omega (arith, length-places_of written)
  length-places_of (integer_literal at word) = refl
  length-places_of (string_literal at strings) = omega (arith, length-places_of_all strings)
  length-places_of (boolean_literal at value) = refl
  length-places_of (null_literal at) = refl
  length-places_of (this_expression at) = refl
  length-places_of (super_expression at) = refl
  length-places_of (identifier at word) = refl
  length-places_of (parenthesis at inner) = omega (arith, length-places_of inner)
  length-places_of (new_expression at written name arguments) = simp length-append (omega (arith, length-places_of written, length-places_of arguments))
  length-places_of (list_literal at type_arguments elements) = simp length-append (omega (arith, length-places_of_part type_arguments, length-places_of_all elements))
  length-places_of (set_or_map_literal at type_arguments entries) = simp length-append (omega (arith, length-places_of_part type_arguments, length-places_of_all entries))
  length-places_of (function_expression at parameters body) = simp length-append (omega (arith, length-places_of parameters, length-places_of body))
  length-places_of (generic_identifier at name type_arguments) = omega (arith, length-places_of type_arguments)
  length-places_of (property_access at receiver null_aware name) = omega (arith, length-places_of receiver)
  length-places_of (index_expression at receiver null_aware bracket index) = simp length-append (omega (arith, length-places_of receiver, length-places_of index))
  length-places_of (null_check at operand) = omega (arith, length-places_of operand)
  length-places_of (call at callee type_arguments arguments) = simp length-append (omega (arith, length-places_of callee, length-places_of_part type_arguments, length-places_of arguments))
  length-places_of (unary_expression at operator operand) = omega (arith, length-places_of operand)
  length-places_of (postfix_expression at operator operand) = omega (arith, length-places_of operand)
  length-places_of (binary_expression at operator left right) = simp length-append (omega (arith, length-places_of left, length-places_of right))
  length-places_of (type_test at operand negated written) = simp length-append (omega (arith, length-places_of operand, length-places_of written))
  length-places_of (type_cast at operand written) = simp length-append (omega (arith, length-places_of operand, length-places_of written))
  length-places_of (conditional at condition then_value else_value) = simp length-append (omega (arith, length-places_of condition, length-places_of then_value, length-places_of else_value))
  length-places_of (assignment at operator target value) = simp length-append (omega (arith, length-places_of target, length-places_of value))
  length-places_of (throw_expression at value) = omega (arith, length-places_of value)
  length-places_of (cascade at receiver null_aware section) = simp length-append (omega (arith, length-places_of receiver, length-places_of section))
  length-places_of (cascaded_name at name) = refl
  length-places_of (cascaded_index at bracket index) = omega (arith, length-places_of index)
  length-places_of (simple_string at kind word) = refl
  length-places_of (interpolated_string at elements) = omega (arith, length-places_of_all elements)
  length-places_of (string_text at kind word) = refl
  length-places_of (string_interpolation at value) = omega (arith, length-places_of value)
  length-places_of (map_entry at key value) = simp length-append (omega (arith, length-places_of key, length-places_of_part value))
  length-places_of (argument_list at arguments) = omega (arith, length-places_of_all arguments)
  length-places_of (argument at name value) = omega (arith, length-places_of value)
  length-places_of (annotation at name) = refl
  length-places_of (parameter_list at parameters) = omega (arith, length-places_of_all parameters)
  length-places_of (parameter at metadata kind is_required is_final written is_field name default_value) = simp length-append (omega (arith, length-places_of_all metadata, length-places_of_part written, length-places_of_part default_value))
  length-places_of (expression_body at value) = omega (arith, length-places_of value)
  length-places_of (empty_body at) = refl
  length-places_of (native_body at) = refl
  length-places_of (getter at result name body) = simp length-append (omega (arith, length-places_of_part result, length-places_of body))
  length-places_of (setter at result name parameters body) = simp length-append (omega (arith, length-places_of_part result, length-places_of parameters, length-places_of body))
  length-places_of (plain_function at result name type_parameters parameters body) = simp length-append (omega (arith, length-places_of_part result, length-places_of_all type_parameters, length-places_of parameters, length-places_of body))
  length-places_of (variable_list at is_final written variables) = simp length-append (omega (arith, length-places_of_part written, length-places_of_all variables))
  length-places_of (variable at name initializer) = omega (arith, length-places_of_part initializer)
  length-places_of (block at statements) = omega (arith, length-places_of_all statements)
  length-places_of (variable_statement at variables) = omega (arith, length-places_of variables)
  length-places_of (function_statement at function) = omega (arith, length-places_of function)
  length-places_of (expression_statement at value) = omega (arith, length-places_of_part value)
  length-places_of (if_statement at condition then_branch else_branch) = simp length-append (omega (arith, length-places_of condition, length-places_of then_branch, length-places_of_part else_branch))
  length-places_of (while_statement at condition body) = simp length-append (omega (arith, length-places_of condition, length-places_of body))
  length-places_of (do_statement at body condition) = simp length-append (omega (arith, length-places_of body, length-places_of condition))
  length-places_of (for_statement at initializer condition updates body) = simp length-append (omega (arith, length-places_of_part initializer, length-places_of_part condition, length-places_of_all updates, length-places_of body))
  length-places_of (for_in_statement at is_final written name iterable body) = simp length-append (omega (arith, length-places_of_part written, length-places_of iterable, length-places_of body))
  length-places_of (for_in_assignment at name iterable body) = simp length-append (omega (arith, length-places_of iterable, length-places_of body))
  length-places_of (switch_statement at value cases) = simp length-append (omega (arith, length-places_of value, length-places_of_all cases))
  length-places_of (switch_case at labels is_default statements) = simp length-append (omega (arith, length-places_of_all labels, length-places_of_all statements))
  length-places_of (try_statement at body handlers finally_block) = simp length-append (omega (arith, length-places_of body, length-places_of_all handlers, length-places_of_part finally_block))
  length-places_of (catch_clause at written exception stack_trace body) = simp length-append (omega (arith, length-places_of_part written, length-places_of_part exception, length-places_of_part stack_trace, length-places_of body))
  length-places_of (return_statement at value) = omega (arith, length-places_of_part value)
  length-places_of (break_statement at label) = refl
  length-places_of (continue_statement at label) = refl
  length-places_of (rethrow_statement at) = refl
  length-places_of (labeled_statement at label body) = omega (arith, length-places_of body)
  length-places_of (constructor_declaration at metadata name parameters initializers body) = simp length-append (omega (arith, length-places_of_all metadata, length-places_of parameters, length-places_of_all initializers, length-places_of body))
  length-places_of (factory_declaration at metadata name parameters body) = simp length-append (omega (arith, length-places_of_all metadata, length-places_of parameters, length-places_of body))
  length-places_of (method_declaration at metadata is_static function) = simp length-append (omega (arith, length-places_of_all metadata, length-places_of function))
  length-places_of (field_declaration at metadata is_static variables) = simp length-append (omega (arith, length-places_of_all metadata, length-places_of variables))
  length-places_of (operator_declaration at metadata result name parameters body) = simp length-append (omega (arith, length-places_of_all metadata, length-places_of_part result, length-places_of parameters, length-places_of body))
  length-places_of (field_initializer at name value) = omega (arith, length-places_of value)
  length-places_of (super_initializer at name arguments) = omega (arith, length-places_of arguments)
  length-places_of (redirection at name arguments) = omega (arith, length-places_of arguments)
  length-places_of (class_declaration at metadata is_abstract name type_parameters superclass mixins interfaces members) = simp length-append (omega (arith, length-places_of_all metadata, length-places_of_all type_parameters, length-places_of_part superclass, length-places_of_all mixins, length-places_of_all interfaces, length-places_of_all members))
  length-places_of (mixin_declaration at metadata name type_parameters constraints interfaces members) = simp length-append (omega (arith, length-places_of_all metadata, length-places_of_all type_parameters, length-places_of_all constraints, length-places_of_all interfaces, length-places_of_all members))
  length-places_of (type_alias at metadata name written) = simp length-append (omega (arith, length-places_of_all metadata, length-places_of written))
  length-places_of (function_declaration at metadata function) = simp length-append (omega (arith, length-places_of_all metadata, length-places_of function))
  length-places_of (variable_declaration at metadata variables) = simp length-append (omega (arith, length-places_of_all metadata, length-places_of variables))
  length-places_of (library_directive at names) = omega (arith, length-places_of_all names)
  length-places_of (import_directive at uri prefix combinators) = simp length-append (omega (arith, length-places_of uri, length-places_of_part prefix, length-places_of_all combinators))
  length-places_of (export_directive at uri combinators) = simp length-append (omega (arith, length-places_of uri, length-places_of_all combinators))
  length-places_of (part_directive at uri) = omega (arith, length-places_of uri)
  length-places_of (part_of_directive at uri) = omega (arith, length-places_of uri)
  length-places_of (part_of_library_directive at names) = omega (arith, length-places_of_all names)
  length-places_of (show_combinator at names) = omega (arith, length-places_of_all names)
  length-places_of (hide_combinator at names) = omega (arith, length-places_of_all names)
  length-places_of (listed_name at word) = refl
  length-places_of (error_node at) = refl
  length-places_of (unit at items) = omega (arith, length-places_of_all items)

  -- so it is of the nodes of a list of trees
  length-places_of_all : (ts : Trees) → length (places_of_all ts) ≡ nodes_in_all ts
  length-places_of_all no_more = refl
  length-places_of_all (more first rest) = simp length-append (omega (arith, length-places_of first, length-places_of_all rest))

  -- and of a part
  length-places_of_part : (p : Part) → length (places_of_part p) ≡ nodes_in_part p
  length-places_of_part absent = refl
  length-places_of_part (present tree) = length-places_of tree

-- what comes behind a tree is numbered from where the tree ends
places_from-tree : (n : ℕ) (t : Tree) (ps : List Place) → places_from n (places_of t ++ ps) ≡ places_from n (places_of t) ++ places_from (n + nodes_in t) ps
places_from-tree n t ps = places_from-append n (nodes_in t) (places_of t) ps (length-places_of t)

-- so behind a list of trees
places_from-all : (n : ℕ) (ts : Trees) (ps : List Place) →
    places_from n (places_of_all ts ++ ps) ≡ places_from n (places_of_all ts) ++ places_from (n + nodes_in_all ts) ps
places_from-all n ts ps = places_from-append n (nodes_in_all ts) (places_of_all ts) ps (length-places_of_all ts)

-- and behind a part
places_from-part : (n : ℕ) (p : Part) (ps : List Place) →
    places_from n (places_of_part p ++ ps) ≡ places_from n (places_of_part p) ++ places_from (n + nodes_in_part p) ps
places_from-part n p ps = places_from-append n (nodes_in_part p) (places_of_part p) ps (length-places_of_part p)

mutual
  -- in reading order the numbers of all nodes count up by one from the first given, and each range stays
  places_of-numbered : (n : ℕ) (t : Tree) → places_of (numbered n t) ≡ places_from n (places_of t)
  places_of-numbered n (void_type at) = refl
  places_of-numbered n (named_type at prefix name arguments nullable) = rw (places_of_part-numbered (n + 1) arguments) refl
  places_of-numbered n (function_type at result type_parameters parameters optional nullable) = rw (
    places_of_part-numbered (n + 1) result,
    places_of_all-numbered (n + 1 + nodes_in_part result) type_parameters,
    places_of_all-numbered (n + 1 + nodes_in_part result + nodes_in_all type_parameters) parameters,
    places_of_all-numbered (n + 1 + nodes_in_part result + nodes_in_all type_parameters + nodes_in_all parameters) optional,
    places_from-part (n + 1) result (places_of_all type_parameters ++ (places_of_all parameters ++ (places_of_all optional))),
    places_from-all (n + 1 + nodes_in_part result) type_parameters (places_of_all parameters ++ (places_of_all optional)),
    places_from-all (n + 1 + nodes_in_part result + nodes_in_all type_parameters) parameters (places_of_all optional),
  ) refl
  places_of-numbered n (type_argument_list at types) = rw (places_of_all-numbered (n + 1) types) refl
  places_of-numbered n (type_parameter at name bound) = rw (places_of_part-numbered (n + 1 + 1) bound) refl
  places_of-numbered n (parameter_type at written name) = rw (places_of-numbered (n + 1) written) refl
  places_of-numbered n (integer_literal at word) = refl
  places_of-numbered n (string_literal at strings) = rw (places_of_all-numbered (n + 1) strings) refl
  places_of-numbered n (boolean_literal at value) = refl
  places_of-numbered n (null_literal at) = refl
  places_of-numbered n (this_expression at) = refl
  places_of-numbered n (super_expression at) = refl
  places_of-numbered n (identifier at word) = refl
  places_of-numbered n (parenthesis at inner) = rw (places_of-numbered (n + 1) inner) refl
  places_of-numbered n (new_expression at written name arguments) = rw (
    places_of-numbered (n + 1) written,
    places_of-numbered (n + 1 + nodes_in written) arguments,
    places_from-tree (n + 1) written (places_of arguments),
  ) refl
  places_of-numbered n (list_literal at type_arguments elements) = rw (
    places_of_part-numbered (n + 1) type_arguments,
    places_of_all-numbered (n + 1 + nodes_in_part type_arguments) elements,
    places_from-part (n + 1) type_arguments (places_of_all elements),
  ) refl
  places_of-numbered n (set_or_map_literal at type_arguments entries) = rw (
    places_of_part-numbered (n + 1) type_arguments,
    places_of_all-numbered (n + 1 + nodes_in_part type_arguments) entries,
    places_from-part (n + 1) type_arguments (places_of_all entries),
  ) refl
  places_of-numbered n (function_expression at parameters body) = rw (
    places_of-numbered (n + 1) parameters,
    places_of-numbered (n + 1 + nodes_in parameters) body,
    places_from-tree (n + 1) parameters (places_of body),
  ) refl
  places_of-numbered n (generic_identifier at name type_arguments) = rw (places_of-numbered (n + 1) type_arguments) refl
  places_of-numbered n (property_access at receiver null_aware name) = rw (places_of-numbered (n + 1) receiver) refl
  places_of-numbered n (index_expression at receiver null_aware bracket index) = rw (
    places_of-numbered (n + 1) receiver,
    places_of-numbered (n + 1 + nodes_in receiver) index,
    places_from-tree (n + 1) receiver (places_of index),
  ) refl
  places_of-numbered n (null_check at operand) = rw (places_of-numbered (n + 1) operand) refl
  places_of-numbered n (call at callee type_arguments arguments) = rw (
    places_of-numbered (n + 1) callee,
    places_of_part-numbered (n + 1 + nodes_in callee) type_arguments,
    places_of-numbered (n + 1 + nodes_in callee + nodes_in_part type_arguments) arguments,
    places_from-tree (n + 1) callee (places_of_part type_arguments ++ (places_of arguments)),
    places_from-part (n + 1 + nodes_in callee) type_arguments (places_of arguments),
  ) refl
  places_of-numbered n (unary_expression at operator operand) = rw (places_of-numbered (n + 1) operand) refl
  places_of-numbered n (postfix_expression at operator operand) = rw (places_of-numbered (n + 1) operand) refl
  places_of-numbered n (binary_expression at operator left right) = rw (
    places_of-numbered (n + 1) left,
    places_of-numbered (n + 1 + nodes_in left) right,
    places_from-tree (n + 1) left (places_of right),
  ) refl
  places_of-numbered n (type_test at operand negated written) = rw (
    places_of-numbered (n + 1) operand,
    places_of-numbered (n + 1 + nodes_in operand) written,
    places_from-tree (n + 1) operand (places_of written),
  ) refl
  places_of-numbered n (type_cast at operand written) = rw (
    places_of-numbered (n + 1) operand,
    places_of-numbered (n + 1 + nodes_in operand) written,
    places_from-tree (n + 1) operand (places_of written),
  ) refl
  places_of-numbered n (conditional at condition then_value else_value) = rw (
    places_of-numbered (n + 1) condition,
    places_of-numbered (n + 1 + nodes_in condition) then_value,
    places_of-numbered (n + 1 + nodes_in condition + nodes_in then_value) else_value,
    places_from-tree (n + 1) condition (places_of then_value ++ (places_of else_value)),
    places_from-tree (n + 1 + nodes_in condition) then_value (places_of else_value),
  ) refl
  places_of-numbered n (assignment at operator target value) = rw (
    places_of-numbered (n + 1) target,
    places_of-numbered (n + 1 + nodes_in target) value,
    places_from-tree (n + 1) target (places_of value),
  ) refl
  places_of-numbered n (throw_expression at value) = rw (places_of-numbered (n + 1) value) refl
  places_of-numbered n (cascade at receiver null_aware section) = rw (
    places_of-numbered (n + 1) receiver,
    places_of-numbered (n + 1 + nodes_in receiver) section,
    places_from-tree (n + 1) receiver (places_of section),
  ) refl
  places_of-numbered n (cascaded_name at name) = refl
  places_of-numbered n (cascaded_index at bracket index) = rw (places_of-numbered (n + 1) index) refl
  places_of-numbered n (simple_string at kind word) = refl
  places_of-numbered n (interpolated_string at elements) = rw (places_of_all-numbered (n + 1) elements) refl
  places_of-numbered n (string_text at kind word) = refl
  places_of-numbered n (string_interpolation at value) = rw (places_of-numbered (n + 1) value) refl
  places_of-numbered n (map_entry at key value) = rw (
    places_of-numbered (n + 1) key,
    places_of_part-numbered (n + 1 + nodes_in key) value,
    places_from-tree (n + 1) key (places_of_part value),
  ) refl
  places_of-numbered n (argument_list at arguments) = rw (places_of_all-numbered (n + 1) arguments) refl
  places_of-numbered n (argument at name value) = rw (places_of-numbered (n + 1) value) refl
  places_of-numbered n (annotation at name) = refl
  places_of-numbered n (parameter_list at parameters) = rw (places_of_all-numbered (n + 1) parameters) refl
  places_of-numbered n (parameter at metadata kind is_required is_final written is_field name default_value) = rw (
    places_of_all-numbered (n + 1) metadata,
    places_of_part-numbered (n + 1 + nodes_in_all metadata) written,
    places_of_part-numbered (n + 1 + nodes_in_all metadata + nodes_in_part written + 1) default_value,
    places_from-all (n + 1) metadata (places_of_part written ++ (name.at ∷ places_of_part default_value)),
    places_from-part (n + 1 + nodes_in_all metadata) written (name.at ∷ places_of_part default_value),
  ) refl
  places_of-numbered n (expression_body at value) = rw (places_of-numbered (n + 1) value) refl
  places_of-numbered n (empty_body at) = refl
  places_of-numbered n (native_body at) = refl
  places_of-numbered n (getter at result name body) = rw (
    places_of_part-numbered (n + 1) result,
    places_of-numbered (n + 1 + nodes_in_part result + 1) body,
    places_from-part (n + 1) result (name.at ∷ places_of body),
  ) refl
  places_of-numbered n (setter at result name parameters body) = rw (
    places_of_part-numbered (n + 1) result,
    places_of-numbered (n + 1 + nodes_in_part result + 1) parameters,
    places_of-numbered (n + 1 + nodes_in_part result + 1 + nodes_in parameters) body,
    places_from-part (n + 1) result (name.at ∷ places_of parameters ++ (places_of body)),
    places_from-tree (n + 1 + nodes_in_part result + 1) parameters (places_of body),
  ) refl
  places_of-numbered n (plain_function at result name type_parameters parameters body) = rw (
    places_of_part-numbered (n + 1) result,
    places_of_all-numbered (n + 1 + nodes_in_part result + 1) type_parameters,
    places_of-numbered (n + 1 + nodes_in_part result + 1 + nodes_in_all type_parameters) parameters,
    places_of-numbered (n + 1 + nodes_in_part result + 1 + nodes_in_all type_parameters + nodes_in parameters) body,
    places_from-part (n + 1) result (name.at ∷ places_of_all type_parameters ++ (places_of parameters ++ (places_of body))),
    places_from-all (n + 1 + nodes_in_part result + 1) type_parameters (places_of parameters ++ (places_of body)),
    places_from-tree (n + 1 + nodes_in_part result + 1 + nodes_in_all type_parameters) parameters (places_of body),
  ) refl
  places_of-numbered n (variable_list at is_final written variables) = rw (
    places_of_part-numbered (n + 1) written,
    places_of_all-numbered (n + 1 + nodes_in_part written) variables,
    places_from-part (n + 1) written (places_of_all variables),
  ) refl
  places_of-numbered n (variable at name initializer) = rw (places_of_part-numbered (n + 1 + 1) initializer) refl
  places_of-numbered n (block at statements) = rw (places_of_all-numbered (n + 1) statements) refl
  places_of-numbered n (variable_statement at variables) = rw (places_of-numbered (n + 1) variables) refl
  places_of-numbered n (function_statement at function) = rw (places_of-numbered (n + 1) function) refl
  places_of-numbered n (expression_statement at value) = rw (places_of_part-numbered (n + 1) value) refl
  places_of-numbered n (if_statement at condition then_branch else_branch) = rw (
    places_of-numbered (n + 1) condition,
    places_of-numbered (n + 1 + nodes_in condition) then_branch,
    places_of_part-numbered (n + 1 + nodes_in condition + nodes_in then_branch) else_branch,
    places_from-tree (n + 1) condition (places_of then_branch ++ (places_of_part else_branch)),
    places_from-tree (n + 1 + nodes_in condition) then_branch (places_of_part else_branch),
  ) refl
  places_of-numbered n (while_statement at condition body) = rw (
    places_of-numbered (n + 1) condition,
    places_of-numbered (n + 1 + nodes_in condition) body,
    places_from-tree (n + 1) condition (places_of body),
  ) refl
  places_of-numbered n (do_statement at body condition) = rw (
    places_of-numbered (n + 1) body,
    places_of-numbered (n + 1 + nodes_in body) condition,
    places_from-tree (n + 1) body (places_of condition),
  ) refl
  places_of-numbered n (for_statement at initializer condition updates body) = rw (
    places_of_part-numbered (n + 1) initializer,
    places_of_part-numbered (n + 1 + nodes_in_part initializer) condition,
    places_of_all-numbered (n + 1 + nodes_in_part initializer + nodes_in_part condition) updates,
    places_of-numbered (n + 1 + nodes_in_part initializer + nodes_in_part condition + nodes_in_all updates) body,
    places_from-part (n + 1) initializer (places_of_part condition ++ (places_of_all updates ++ (places_of body))),
    places_from-part (n + 1 + nodes_in_part initializer) condition (places_of_all updates ++ (places_of body)),
    places_from-all (n + 1 + nodes_in_part initializer + nodes_in_part condition) updates (places_of body),
  ) refl
  places_of-numbered n (for_in_statement at is_final written name iterable body) = rw (
    places_of_part-numbered (n + 1) written,
    places_of-numbered (n + 1 + nodes_in_part written + 1) iterable,
    places_of-numbered (n + 1 + nodes_in_part written + 1 + nodes_in iterable) body,
    places_from-part (n + 1) written (name.at ∷ places_of iterable ++ (places_of body)),
    places_from-tree (n + 1 + nodes_in_part written + 1) iterable (places_of body),
  ) refl
  places_of-numbered n (for_in_assignment at name iterable body) = rw (
    places_of-numbered (n + 1 + 1) iterable,
    places_of-numbered (n + 1 + 1 + nodes_in iterable) body,
    places_from-tree (n + 1 + 1) iterable (places_of body),
  ) refl
  places_of-numbered n (switch_statement at value cases) = rw (
    places_of-numbered (n + 1) value,
    places_of_all-numbered (n + 1 + nodes_in value) cases,
    places_from-tree (n + 1) value (places_of_all cases),
  ) refl
  places_of-numbered n (switch_case at labels is_default statements) = rw (
    places_of_all-numbered (n + 1) labels,
    places_of_all-numbered (n + 1 + nodes_in_all labels) statements,
    places_from-all (n + 1) labels (places_of_all statements),
  ) refl
  places_of-numbered n (try_statement at body handlers finally_block) = rw (
    places_of-numbered (n + 1) body,
    places_of_all-numbered (n + 1 + nodes_in body) handlers,
    places_of_part-numbered (n + 1 + nodes_in body + nodes_in_all handlers) finally_block,
    places_from-tree (n + 1) body (places_of_all handlers ++ (places_of_part finally_block)),
    places_from-all (n + 1 + nodes_in body) handlers (places_of_part finally_block),
  ) refl
  places_of-numbered n (catch_clause at written exception stack_trace body) = rw (
    places_of_part-numbered (n + 1) written,
    places_of_part-numbered (n + 1 + nodes_in_part written) exception,
    places_of_part-numbered (n + 1 + nodes_in_part written + nodes_in_part exception) stack_trace,
    places_of-numbered (n + 1 + nodes_in_part written + nodes_in_part exception + nodes_in_part stack_trace) body,
    places_from-part (n + 1) written (places_of_part exception ++ (places_of_part stack_trace ++ (places_of body))),
    places_from-part (n + 1 + nodes_in_part written) exception (places_of_part stack_trace ++ (places_of body)),
    places_from-part (n + 1 + nodes_in_part written + nodes_in_part exception) stack_trace (places_of body),
  ) refl
  places_of-numbered n (return_statement at value) = rw (places_of_part-numbered (n + 1) value) refl
  places_of-numbered n (break_statement at label) = refl
  places_of-numbered n (continue_statement at label) = refl
  places_of-numbered n (rethrow_statement at) = refl
  places_of-numbered n (labeled_statement at label body) = rw (places_of-numbered (n + 1 + 1) body) refl
  places_of-numbered n (constructor_declaration at metadata name parameters initializers body) = rw (
    places_of_all-numbered (n + 1) metadata,
    places_of-numbered (n + 1 + nodes_in_all metadata + 1) parameters,
    places_of_all-numbered (n + 1 + nodes_in_all metadata + 1 + nodes_in parameters) initializers,
    places_of-numbered (n + 1 + nodes_in_all metadata + 1 + nodes_in parameters + nodes_in_all initializers) body,
    places_from-all (n + 1) metadata (name.at ∷ places_of parameters ++ (places_of_all initializers ++ (places_of body))),
    places_from-tree (n + 1 + nodes_in_all metadata + 1) parameters (places_of_all initializers ++ (places_of body)),
    places_from-all (n + 1 + nodes_in_all metadata + 1 + nodes_in parameters) initializers (places_of body),
  ) refl
  places_of-numbered n (factory_declaration at metadata name parameters body) = rw (
    places_of_all-numbered (n + 1) metadata,
    places_of-numbered (n + 1 + nodes_in_all metadata + 1) parameters,
    places_of-numbered (n + 1 + nodes_in_all metadata + 1 + nodes_in parameters) body,
    places_from-all (n + 1) metadata (name.at ∷ places_of parameters ++ (places_of body)),
    places_from-tree (n + 1 + nodes_in_all metadata + 1) parameters (places_of body),
  ) refl
  places_of-numbered n (method_declaration at metadata is_static function) = rw (
    places_of_all-numbered (n + 1) metadata,
    places_of-numbered (n + 1 + nodes_in_all metadata) function,
    places_from-all (n + 1) metadata (places_of function),
  ) refl
  places_of-numbered n (field_declaration at metadata is_static variables) = rw (
    places_of_all-numbered (n + 1) metadata,
    places_of-numbered (n + 1 + nodes_in_all metadata) variables,
    places_from-all (n + 1) metadata (places_of variables),
  ) refl
  places_of-numbered n (operator_declaration at metadata result name parameters body) = rw (
    places_of_all-numbered (n + 1) metadata,
    places_of_part-numbered (n + 1 + nodes_in_all metadata) result,
    places_of-numbered (n + 1 + nodes_in_all metadata + nodes_in_part result + 1) parameters,
    places_of-numbered (n + 1 + nodes_in_all metadata + nodes_in_part result + 1 + nodes_in parameters) body,
    places_from-all (n + 1) metadata (places_of_part result ++ (name.at ∷ places_of parameters ++ (places_of body))),
    places_from-part (n + 1 + nodes_in_all metadata) result (name.at ∷ places_of parameters ++ (places_of body)),
    places_from-tree (n + 1 + nodes_in_all metadata + nodes_in_part result + 1) parameters (places_of body),
  ) refl
  places_of-numbered n (field_initializer at name value) = rw (places_of-numbered (n + 1) value) refl
  places_of-numbered n (super_initializer at name arguments) = rw (places_of-numbered (n + 1) arguments) refl
  places_of-numbered n (redirection at name arguments) = rw (places_of-numbered (n + 1) arguments) refl
  places_of-numbered n (class_declaration at metadata is_abstract name type_parameters superclass mixins interfaces members) = rw (
    places_of_all-numbered (n + 1) metadata,
    places_of_all-numbered (n + 1 + nodes_in_all metadata + 1) type_parameters,
    places_of_part-numbered (n + 1 + nodes_in_all metadata + 1 + nodes_in_all type_parameters) superclass,
    places_of_all-numbered (n + 1 + nodes_in_all metadata + 1 + nodes_in_all type_parameters + nodes_in_part superclass) mixins,
    places_of_all-numbered (n + 1 + nodes_in_all metadata + 1 + nodes_in_all type_parameters + nodes_in_part superclass + nodes_in_all mixins) interfaces,
    places_of_all-numbered (n + 1 + nodes_in_all metadata + 1 + nodes_in_all type_parameters + nodes_in_part superclass + nodes_in_all mixins + nodes_in_all interfaces) members,
    places_from-all (n + 1) metadata (name.at ∷ places_of_all type_parameters ++ (places_of_part superclass ++ (places_of_all mixins ++ (places_of_all interfaces ++ (places_of_all members))))),
    places_from-all (n + 1 + nodes_in_all metadata + 1) type_parameters (places_of_part superclass ++ (places_of_all mixins ++ (places_of_all interfaces ++ (places_of_all members)))),
    places_from-part (n + 1 + nodes_in_all metadata + 1 + nodes_in_all type_parameters) superclass (places_of_all mixins ++ (places_of_all interfaces ++ (places_of_all members))),
    places_from-all (n + 1 + nodes_in_all metadata + 1 + nodes_in_all type_parameters + nodes_in_part superclass) mixins (places_of_all interfaces ++ (places_of_all members)),
    places_from-all (n + 1 + nodes_in_all metadata + 1 + nodes_in_all type_parameters + nodes_in_part superclass + nodes_in_all mixins) interfaces (places_of_all members),
  ) refl
  places_of-numbered n (mixin_declaration at metadata name type_parameters constraints interfaces members) = rw (
    places_of_all-numbered (n + 1) metadata,
    places_of_all-numbered (n + 1 + nodes_in_all metadata + 1) type_parameters,
    places_of_all-numbered (n + 1 + nodes_in_all metadata + 1 + nodes_in_all type_parameters) constraints,
    places_of_all-numbered (n + 1 + nodes_in_all metadata + 1 + nodes_in_all type_parameters + nodes_in_all constraints) interfaces,
    places_of_all-numbered (n + 1 + nodes_in_all metadata + 1 + nodes_in_all type_parameters + nodes_in_all constraints + nodes_in_all interfaces) members,
    places_from-all (n + 1) metadata (name.at ∷ places_of_all type_parameters ++ (places_of_all constraints ++ (places_of_all interfaces ++ (places_of_all members)))),
    places_from-all (n + 1 + nodes_in_all metadata + 1) type_parameters (places_of_all constraints ++ (places_of_all interfaces ++ (places_of_all members))),
    places_from-all (n + 1 + nodes_in_all metadata + 1 + nodes_in_all type_parameters) constraints (places_of_all interfaces ++ (places_of_all members)),
    places_from-all (n + 1 + nodes_in_all metadata + 1 + nodes_in_all type_parameters + nodes_in_all constraints) interfaces (places_of_all members),
  ) refl
  places_of-numbered n (type_alias at metadata name written) = rw (
    places_of_all-numbered (n + 1) metadata,
    places_of-numbered (n + 1 + nodes_in_all metadata + 1) written,
    places_from-all (n + 1) metadata (name.at ∷ places_of written),
  ) refl
  places_of-numbered n (function_declaration at metadata function) = rw (
    places_of_all-numbered (n + 1) metadata,
    places_of-numbered (n + 1 + nodes_in_all metadata) function,
    places_from-all (n + 1) metadata (places_of function),
  ) refl
  places_of-numbered n (variable_declaration at metadata variables) = rw (
    places_of_all-numbered (n + 1) metadata,
    places_of-numbered (n + 1 + nodes_in_all metadata) variables,
    places_from-all (n + 1) metadata (places_of variables),
  ) refl
  places_of-numbered n (library_directive at names) = rw (places_of_all-numbered (n + 1) names) refl
  places_of-numbered n (import_directive at uri prefix combinators) = rw (
    places_of-numbered (n + 1) uri,
    places_of_part-numbered (n + 1 + nodes_in uri) prefix,
    places_of_all-numbered (n + 1 + nodes_in uri + nodes_in_part prefix) combinators,
    places_from-tree (n + 1) uri (places_of_part prefix ++ (places_of_all combinators)),
    places_from-part (n + 1 + nodes_in uri) prefix (places_of_all combinators),
  ) refl
  places_of-numbered n (export_directive at uri combinators) = rw (
    places_of-numbered (n + 1) uri,
    places_of_all-numbered (n + 1 + nodes_in uri) combinators,
    places_from-tree (n + 1) uri (places_of_all combinators),
  ) refl
  places_of-numbered n (part_directive at uri) = rw (places_of-numbered (n + 1) uri) refl
  places_of-numbered n (part_of_directive at uri) = rw (places_of-numbered (n + 1) uri) refl
  places_of-numbered n (part_of_library_directive at names) = rw (places_of_all-numbered (n + 1) names) refl
  places_of-numbered n (show_combinator at names) = rw (places_of_all-numbered (n + 1) names) refl
  places_of-numbered n (hide_combinator at names) = rw (places_of_all-numbered (n + 1) names) refl
  places_of-numbered n (listed_name at word) = refl
  places_of-numbered n (error_node at) = refl
  places_of-numbered n (unit at items) = rw (places_of_all-numbered (n + 1) items) refl

  -- so they do through a list of trees
  places_of_all-numbered : (n : ℕ) (ts : Trees) → places_of_all (all_numbered n ts) ≡ places_from n (places_of_all ts)
  places_of_all-numbered n no_more = refl
  places_of_all-numbered n (more first rest) =
      rw (places_of-numbered n first, places_of_all-numbered (n + nodes_in first) rest, places_from-tree n first (places_of_all rest)) refl

  -- and through a part
  places_of_part-numbered : (n : ℕ) (p : Part) → places_of_part (part_numbered n p) ≡ places_from n (places_of_part p)
  places_of_part-numbered n absent = refl
  places_of_part-numbered n (present tree) = places_of-numbered n tree

-- in reading order the numbers of all nodes count up by one
pub numbers_of-numbered : (n : ℕ) (t : Tree) → numbers_of (numbered n t) ≡ range_with_len n (nodes_in t)
numbers_of-numbered n t = rw (places_of-numbered n t, numbers-places_from n (places_of t), length-places_of t) refl

-- the ranges of all nodes stay
pub spans_of-numbered : (n : ℕ) (t : Tree) → spans_of (numbered n t) ≡ spans_of t
spans_of-numbered n t = rw (places_of-numbered n t) (spans-places_from n (places_of t))

-- in reading order a node stands before the nodes in it
pub place_of-first : (t : Tree) → (rest : List Place) × (places_of t ≡ place_of t ∷ rest)
place_of-first (void_type at) = (_, refl)
place_of-first (named_type at prefix name arguments nullable) = (_, refl)
place_of-first (function_type at result type_parameters parameters optional nullable) = (_, refl)
place_of-first (type_argument_list at types) = (_, refl)
place_of-first (type_parameter at name bound) = (_, refl)
place_of-first (parameter_type at written name) = (_, refl)
place_of-first (integer_literal at word) = (_, refl)
place_of-first (string_literal at strings) = (_, refl)
place_of-first (boolean_literal at value) = (_, refl)
place_of-first (null_literal at) = (_, refl)
place_of-first (this_expression at) = (_, refl)
place_of-first (super_expression at) = (_, refl)
place_of-first (identifier at word) = (_, refl)
place_of-first (parenthesis at inner) = (_, refl)
place_of-first (new_expression at written name arguments) = (_, refl)
place_of-first (list_literal at type_arguments elements) = (_, refl)
place_of-first (set_or_map_literal at type_arguments entries) = (_, refl)
place_of-first (function_expression at parameters body) = (_, refl)
place_of-first (generic_identifier at name type_arguments) = (_, refl)
place_of-first (property_access at receiver null_aware name) = (_, refl)
place_of-first (index_expression at receiver null_aware bracket index) = (_, refl)
place_of-first (null_check at operand) = (_, refl)
place_of-first (call at callee type_arguments arguments) = (_, refl)
place_of-first (unary_expression at operator operand) = (_, refl)
place_of-first (postfix_expression at operator operand) = (_, refl)
place_of-first (binary_expression at operator left right) = (_, refl)
place_of-first (type_test at operand negated written) = (_, refl)
place_of-first (type_cast at operand written) = (_, refl)
place_of-first (conditional at condition then_value else_value) = (_, refl)
place_of-first (assignment at operator target value) = (_, refl)
place_of-first (throw_expression at value) = (_, refl)
place_of-first (cascade at receiver null_aware section) = (_, refl)
place_of-first (cascaded_name at name) = (_, refl)
place_of-first (cascaded_index at bracket index) = (_, refl)
place_of-first (simple_string at kind word) = (_, refl)
place_of-first (interpolated_string at elements) = (_, refl)
place_of-first (string_text at kind word) = (_, refl)
place_of-first (string_interpolation at value) = (_, refl)
place_of-first (map_entry at key value) = (_, refl)
place_of-first (argument_list at arguments) = (_, refl)
place_of-first (argument at name value) = (_, refl)
place_of-first (annotation at name) = (_, refl)
place_of-first (parameter_list at parameters) = (_, refl)
place_of-first (parameter at metadata kind is_required is_final written is_field name default_value) = (_, refl)
place_of-first (expression_body at value) = (_, refl)
place_of-first (empty_body at) = (_, refl)
place_of-first (native_body at) = (_, refl)
place_of-first (getter at result name body) = (_, refl)
place_of-first (setter at result name parameters body) = (_, refl)
place_of-first (plain_function at result name type_parameters parameters body) = (_, refl)
place_of-first (variable_list at is_final written variables) = (_, refl)
place_of-first (variable at name initializer) = (_, refl)
place_of-first (block at statements) = (_, refl)
place_of-first (variable_statement at variables) = (_, refl)
place_of-first (function_statement at function) = (_, refl)
place_of-first (expression_statement at value) = (_, refl)
place_of-first (if_statement at condition then_branch else_branch) = (_, refl)
place_of-first (while_statement at condition body) = (_, refl)
place_of-first (do_statement at body condition) = (_, refl)
place_of-first (for_statement at initializer condition updates body) = (_, refl)
place_of-first (for_in_statement at is_final written name iterable body) = (_, refl)
place_of-first (for_in_assignment at name iterable body) = (_, refl)
place_of-first (switch_statement at value cases) = (_, refl)
place_of-first (switch_case at labels is_default statements) = (_, refl)
place_of-first (try_statement at body handlers finally_block) = (_, refl)
place_of-first (catch_clause at written exception stack_trace body) = (_, refl)
place_of-first (return_statement at value) = (_, refl)
place_of-first (break_statement at label) = (_, refl)
place_of-first (continue_statement at label) = (_, refl)
place_of-first (rethrow_statement at) = (_, refl)
place_of-first (labeled_statement at label body) = (_, refl)
place_of-first (constructor_declaration at metadata name parameters initializers body) = (_, refl)
place_of-first (factory_declaration at metadata name parameters body) = (_, refl)
place_of-first (method_declaration at metadata is_static function) = (_, refl)
place_of-first (field_declaration at metadata is_static variables) = (_, refl)
place_of-first (operator_declaration at metadata result name parameters body) = (_, refl)
place_of-first (field_initializer at name value) = (_, refl)
place_of-first (super_initializer at name arguments) = (_, refl)
place_of-first (redirection at name arguments) = (_, refl)
place_of-first (class_declaration at metadata is_abstract name type_parameters superclass mixins interfaces members) = (_, refl)
place_of-first (mixin_declaration at metadata name type_parameters constraints interfaces members) = (_, refl)
place_of-first (type_alias at metadata name written) = (_, refl)
place_of-first (function_declaration at metadata function) = (_, refl)
place_of-first (variable_declaration at metadata variables) = (_, refl)
place_of-first (library_directive at names) = (_, refl)
place_of-first (import_directive at uri prefix combinators) = (_, refl)
place_of-first (export_directive at uri combinators) = (_, refl)
place_of-first (part_directive at uri) = (_, refl)
place_of-first (part_of_directive at uri) = (_, refl)
place_of-first (part_of_library_directive at names) = (_, refl)
place_of-first (show_combinator at names) = (_, refl)
place_of-first (hide_combinator at names) = (_, refl)
place_of-first (listed_name at word) = (_, refl)
place_of-first (error_node at) = (_, refl)
place_of-first (unit at items) = (_, refl)
