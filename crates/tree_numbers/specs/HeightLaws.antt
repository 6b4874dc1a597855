-- A node that counts is one higher than the greatest of its parts, and any other as high as that.
use Rattle.std.specs.Prelude.{◌≡◌, ℕ, suc, List, [], ◌∷◌, ◌++◌, if◌then◌else◌, refl}
use Rattle.std.proofs.Common.{ap, arith, ◌∙◌, sym}
use Rattle.dart_tree.specs.Tree.{Tree, Trees, Part, no_more, more, absent, present, void_type, named_type, function_type, type_argument_list, type_parameter, parameter_type, integer_literal, string_literal, boolean_literal, null_literal, this_expression, super_expression, identifier, parenthesis, new_expression, list_literal, set_or_map_literal, function_expression, generic_identifier, property_access, index_expression, null_check, call, unary_expression, postfix_expression, binary_expression, type_test, type_cast, conditional, assignment, throw_expression, cascade, cascaded_name, cascaded_index, simple_string, interpolated_string, string_text, string_interpolation, map_entry, argument_list, argument, annotation, parameter_list, parameter, expression_body, empty_body, native_body, getter, setter, plain_function, variable_list, variable, block, variable_statement, function_statement, expression_statement, if_statement, while_statement, do_statement, for_statement, for_in_statement, for_in_assignment, switch_statement, switch_case, try_statement, catch_clause, return_statement, break_statement, continue_statement, rethrow_statement, labeled_statement, constructor_declaration, factory_declaration, method_declaration, field_declaration, operator_declaration, field_initializer, super_initializer, redirection, class_declaration, mixin_declaration, type_alias, function_declaration, variable_declaration, library_directive, import_directive, export_directive, part_directive, part_of_directive, part_of_library_directive, show_combinator, hide_combinator, listed_name, error_node, unit}
use Rattle.dart_tree.specs.Heights.{higher, height, heights, height_of_part}
use Rattle.dart_tree.specs.Nodes.{list_of, list_of_part, parts_of, counts, greatest_height}

higher-zero : (a : ℕ) → higher a 0 ≡ a
higher-zero a = grind arith

zero-higher : (a : ℕ) → higher 0 a ≡ a
zero-higher a = grind arith

higher-assoc : (a b c : ℕ) → higher (higher a b) c ≡ higher a (higher b c)
higher-assoc a b c = grind arith

-- of two lists of trees one behind the other
greatest-append : (ts us : List Tree) → greatest_height (ts ++ us) ≡ higher (greatest_height ts) (greatest_height us)
greatest-append [] us = sym (zero-higher (greatest_height us))
greatest-append (t ∷ ts) us =
    ap (λ (h : ℕ). higher (height t) h) (greatest-append ts us) ∙ sym (higher-assoc (height t) (greatest_height ts) (greatest_height us))

-- of the trees of a list
greatest-list : (ts : Trees) → greatest_height (list_of ts) ≡ heights ts
greatest-list no_more = refl
greatest-list (more first rest) = ap (λ (h : ℕ). higher (height first) h) (greatest-list rest)

-- of a part
greatest-part : (p : Part) → greatest_height (list_of_part p) ≡ height_of_part p
greatest-part absent = refl
greatest-part (present tree) = higher-zero (height tree)

-- a tree, and then the others
tree-then : (t : Tree) (us : List Tree) (h : ℕ) → h ≡ greatest_height us → higher (height t) h ≡ greatest_height (t ∷ us)
tree-then t us h e = ap (λ (g : ℕ). higher (height t) g) e

-- a list of trees, and then the others
list-then : (ts : Trees) (us : List Tree) (h : ℕ) → h ≡ greatest_height us → higher (heights ts) h ≡ greatest_height (list_of ts ++ us)
list-then ts us h e =
    ap (λ (g : ℕ). higher (heights ts) g) e ∙ ap (λ (g : ℕ). higher g (greatest_height us)) (sym (greatest-list ts))
    ∙ sym (greatest-append (list_of ts) us)

-- a part, and then the others
part-then : (p : Part) (us : List Tree) (h : ℕ) → h ≡ greatest_height us → higher (height_of_part p) h ≡ greatest_height (list_of_part p ++ us)
part-then p us h e =
    ap (λ (g : ℕ). higher (height_of_part p) g) e ∙ ap (λ (g : ℕ). higher g (greatest_height us)) (sym (greatest-part p))
    ∙ sym (greatest-append (list_of_part p) us)

-- of each production
pub height-parts : (t : Tree) → height t ≡ (if counts t then suc (greatest_height (parts_of t)) else greatest_height (parts_of t))
height-parts (void_type at) = refl
height-parts (named_type at prefix name arguments nullable) = ap suc (sym (greatest-part arguments))
height-parts (function_type at result type_parameters parameters optional nullable) = ap suc (part-then result (list_of type_parameters ++ (list_of parameters ++ (list_of optional))) _ (list-then type_parameters (list_of parameters ++ (list_of optional)) _ (list-then parameters (list_of optional) _ (sym (greatest-list optional)))))
height-parts (type_argument_list at types) = sym (greatest-list types)
height-parts (type_parameter at name bound) = sym (greatest-part bound)
height-parts (parameter_type at written name) = sym (higher-zero (height written))
height-parts (integer_literal at word) = refl
height-parts (string_literal at strings) = ap suc (sym (greatest-list strings))
height-parts (boolean_literal at value) = refl
height-parts (null_literal at) = refl
height-parts (this_expression at) = refl
height-parts (super_expression at) = refl
height-parts (identifier at word) = refl
height-parts (parenthesis at inner) = ap suc (sym (higher-zero (height inner)))
height-parts (new_expression at written name arguments) = ap suc (tree-then written (arguments ∷ []) _ (sym (higher-zero (height arguments))))
height-parts (list_literal at type_arguments elements) = ap suc (part-then type_arguments (list_of elements) _ (sym (greatest-list elements)))
height-parts (set_or_map_literal at type_arguments entries) = ap suc (part-then type_arguments (list_of entries) _ (sym (greatest-list entries)))
height-parts (function_expression at parameters body) = ap suc (tree-then parameters (body ∷ []) _ (sym (higher-zero (height body))))
height-parts (generic_identifier at name type_arguments) = ap suc (sym (higher-zero (height type_arguments)))
height-parts (property_access at receiver null_aware name) = ap suc (sym (higher-zero (height receiver)))
height-parts (index_expression at receiver null_aware bracket index) = ap suc (tree-then receiver (index ∷ []) _ (sym (higher-zero (height index))))
height-parts (null_check at operand) = ap suc (sym (higher-zero (height operand)))
height-parts (call at callee type_arguments arguments) = ap suc (tree-then callee (list_of_part type_arguments ++ (arguments ∷ [])) _ (part-then type_arguments (arguments ∷ []) _ (sym (higher-zero (height arguments)))))
height-parts (unary_expression at operator operand) = ap suc (sym (higher-zero (height operand)))
height-parts (postfix_expression at operator operand) = ap suc (sym (higher-zero (height operand)))
height-parts (binary_expression at operator left right) = ap suc (tree-then left (right ∷ []) _ (sym (higher-zero (height right))))
height-parts (type_test at operand negated written) = ap suc (tree-then operand (written ∷ []) _ (sym (higher-zero (height written))))
height-parts (type_cast at operand written) = ap suc (tree-then operand (written ∷ []) _ (sym (higher-zero (height written))))
height-parts (conditional at condition then_value else_value) = ap suc (tree-then condition (then_value ∷ else_value ∷ []) _ (tree-then then_value (else_value ∷ []) _ (sym (higher-zero (height else_value)))))
height-parts (assignment at operator target value) = ap suc (tree-then target (value ∷ []) _ (sym (higher-zero (height value))))
height-parts (throw_expression at value) = ap suc (sym (higher-zero (height value)))
height-parts (cascade at receiver null_aware section) = ap suc (tree-then receiver (section ∷ []) _ (sym (higher-zero (height section))))
height-parts (cascaded_name at name) = refl
height-parts (cascaded_index at bracket index) = sym (higher-zero (height index))
height-parts (simple_string at kind word) = refl
height-parts (interpolated_string at elements) = sym (greatest-list elements)
height-parts (string_text at kind word) = refl
height-parts (string_interpolation at value) = sym (higher-zero (height value))
height-parts (map_entry at key value) = tree-then key (list_of_part value) _ (sym (greatest-part value))
height-parts (argument_list at arguments) = sym (greatest-list arguments)
height-parts (argument at name value) = sym (higher-zero (height value))
height-parts (annotation at name) = refl
height-parts (parameter_list at parameters) = sym (greatest-list parameters)
height-parts (parameter at metadata kind is_required is_final written is_field name default_value) = part-then written (list_of_part default_value) _ (sym (greatest-part default_value))
height-parts (expression_body at value) = sym (higher-zero (height value))
height-parts (empty_body at) = refl
height-parts (native_body at) = refl
height-parts (getter at result name body) = part-then result (body ∷ []) _ (sym (higher-zero (height body)))
height-parts (setter at result name parameters body) = part-then result (parameters ∷ body ∷ []) _ (tree-then parameters (body ∷ []) _ (sym (higher-zero (height body))))
height-parts (plain_function at result name type_parameters parameters body) = part-then result (list_of type_parameters ++ (parameters ∷ body ∷ [])) _ (list-then type_parameters (parameters ∷ body ∷ []) _ (tree-then parameters (body ∷ []) _ (sym (higher-zero (height body)))))
height-parts (variable_list at is_final written variables) = part-then written (list_of variables) _ (sym (greatest-list variables))
height-parts (variable at name initializer) = sym (greatest-part initializer)
height-parts (block at statements) = ap suc (sym (greatest-list statements))
height-parts (variable_statement at variables) = ap suc (sym (higher-zero (height variables)))
height-parts (function_statement at function) = ap suc (sym (higher-zero (height function)))
height-parts (expression_statement at value) = ap suc (sym (greatest-part value))
height-parts (if_statement at condition then_branch else_branch) = ap suc (tree-then condition (then_branch ∷ list_of_part else_branch) _ (tree-then then_branch (list_of_part else_branch) _ (sym (greatest-part else_branch))))
height-parts (while_statement at condition body) = ap suc (tree-then condition (body ∷ []) _ (sym (higher-zero (height body))))
height-parts (do_statement at body condition) = ap suc (tree-then body (condition ∷ []) _ (sym (higher-zero (height condition))))
height-parts (for_statement at initializer condition updates body) = ap suc (part-then initializer (list_of_part condition ++ (list_of updates ++ (body ∷ []))) _ (part-then condition (list_of updates ++ (body ∷ [])) _ (list-then updates (body ∷ []) _ (sym (higher-zero (height body))))))
height-parts (for_in_statement at is_final written name iterable body) = ap suc (part-then written (iterable ∷ body ∷ []) _ (tree-then iterable (body ∷ []) _ (sym (higher-zero (height body)))))
height-parts (for_in_assignment at name iterable body) = ap suc (tree-then iterable (body ∷ []) _ (sym (higher-zero (height body))))
height-parts (switch_statement at value cases) = ap suc (tree-then value (list_of cases) _ (sym (greatest-list cases)))
height-parts (switch_case at labels is_default statements) = list-then labels (list_of statements) _ (sym (greatest-list statements))
height-parts (try_statement at body handlers finally_block) = ap suc (tree-then body (list_of handlers ++ (list_of_part finally_block)) _ (list-then handlers (list_of_part finally_block) _ (sym (greatest-part finally_block))))
height-parts (catch_clause at written exception stack_trace body) = part-then written (body ∷ []) _ (sym (higher-zero (height body)))
height-parts (return_statement at value) = ap suc (sym (greatest-part value))
height-parts (break_statement at label) = refl
height-parts (continue_statement at label) = refl
height-parts (rethrow_statement at) = refl
height-parts (labeled_statement at label body) = ap suc (sym (higher-zero (height body)))
height-parts (constructor_declaration at metadata name parameters initializers body) = ap suc (tree-then parameters (list_of initializers ++ (body ∷ [])) _ (list-then initializers (body ∷ []) _ (sym (higher-zero (height body)))))
height-parts (factory_declaration at metadata name parameters body) = ap suc (tree-then parameters (body ∷ []) _ (sym (higher-zero (height body))))
height-parts (method_declaration at metadata is_static function) = ap suc (sym (higher-zero (height function)))
height-parts (field_declaration at metadata is_static variables) = ap suc (sym (higher-zero (height variables)))
height-parts (operator_declaration at metadata result name parameters body) = ap suc (part-then result (parameters ∷ body ∷ []) _ (tree-then parameters (body ∷ []) _ (sym (higher-zero (height body)))))
height-parts (field_initializer at name value) = sym (higher-zero (height value))
height-parts (super_initializer at name arguments) = sym (higher-zero (height arguments))
height-parts (redirection at name arguments) = sym (higher-zero (height arguments))
height-parts (class_declaration at metadata is_abstract name type_parameters superclass mixins interfaces members) = ap suc (list-then type_parameters (list_of_part superclass ++ (list_of mixins ++ (list_of interfaces ++ (list_of members)))) _ (part-then superclass (list_of mixins ++ (list_of interfaces ++ (list_of members))) _ (list-then mixins (list_of interfaces ++ (list_of members)) _ (list-then interfaces (list_of members) _ (sym (greatest-list members))))))
height-parts (mixin_declaration at metadata name type_parameters constraints interfaces members) = ap suc (list-then type_parameters (list_of constraints ++ (list_of interfaces ++ (list_of members))) _ (list-then constraints (list_of interfaces ++ (list_of members)) _ (list-then interfaces (list_of members) _ (sym (greatest-list members)))))
height-parts (type_alias at metadata name written) = ap suc (sym (higher-zero (height written)))
height-parts (function_declaration at metadata function) = ap suc (sym (higher-zero (height function)))
height-parts (variable_declaration at metadata variables) = ap suc (sym (higher-zero (height variables)))
height-parts (library_directive at names) = refl
height-parts (import_directive at uri prefix combinators) = ap suc (sym (higher-zero (height uri)))
height-parts (export_directive at uri combinators) = ap suc (sym (higher-zero (height uri)))
height-parts (part_directive at uri) = ap suc (sym (higher-zero (height uri)))
height-parts (part_of_directive at uri) = ap suc (sym (higher-zero (height uri)))
height-parts (part_of_library_directive at names) = refl
height-parts (show_combinator at names) = refl
height-parts (hide_combinator at names) = refl
height-parts (listed_name at word) = refl
height-parts (error_node at) = refl
height-parts (unit at items) = ap suc (sym (greatest-list items))
