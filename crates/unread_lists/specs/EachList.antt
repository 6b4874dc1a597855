-- What is said of each list of statements in a tree.
use Rattle.std.specs.Prelude.{◌≡◌, ◌≤◌, ℕ}
use Rattle.dart_tree.specs.Tree.{Tree, Trees, Part, no_more, more, absent, present, void_type, named_type, function_type, type_argument_list, type_parameter, parameter_type, integer_literal, string_literal, boolean_literal, null_literal, this_expression, super_expression, identifier, parenthesis, new_expression, list_literal, set_or_map_literal, function_expression, generic_identifier, property_access, index_expression, null_check, call, unary_expression, postfix_expression, binary_expression, type_test, type_cast, conditional, assignment, throw_expression, cascade, cascaded_name, cascaded_index, simple_string, interpolated_string, string_text, string_interpolation, map_entry, argument_list, argument, annotation, parameter_list, parameter, expression_body, empty_body, native_body, getter, setter, plain_function, variable_list, variable, block, variable_statement, function_statement, expression_statement, if_statement, while_statement, do_statement, for_statement, for_in_statement, for_in_assignment, switch_statement, switch_case, try_statement, catch_clause, return_statement, break_statement, continue_statement, rethrow_statement, labeled_statement, constructor_declaration, factory_declaration, method_declaration, field_declaration, operator_declaration, field_initializer, super_initializer, redirection, class_declaration, mixin_declaration, type_alias, function_declaration, variable_declaration, library_directive, import_directive, export_directive, part_directive, part_of_directive, part_of_library_directive, show_combinator, hide_combinator, listed_name, error_node, unit}
use Rattle.dart_tree.specs.Heights.{heights}
use Rattle.dart_tree.specs.declared.places.Place.{Place}
use Rattle.unread_lists.specs.WithLists.{list_read}

-- no list that is read is higher than there is room for it
abbrev pub FitTheirRoom : (ℕ → Place → Trees) → Type 0
FitTheirRoom lists = (n : ℕ) (at : Place) → heights (lists n at) ≤ n

-- a list that stays as it is, whatever room there is for it
abbrev pub IsKept : (ℕ → Place → Trees) → Trees → Type 0
IsKept lists ts = (n : ℕ) → list_read lists n ts ≡ ts

abbrev mutual
  -- `p` holds of each list of statements that stands in the tree, and in no other list of statements
  pub each_list : (Trees → Type 0) → Tree → Type 0
  each_list p (void_type at) = Unit {0}
  each_list p (named_type at prefix name arguments nullable) = each_list_of_part p arguments
  each_list p (function_type at result type_parameters parameters optional nullable) = each_list_of_part p result × each_list_of_all p type_parameters × each_list_of_all p parameters × each_list_of_all p optional
  each_list p (type_argument_list at types) = each_list_of_all p types
  each_list p (type_parameter at name bound) = each_list_of_part p bound
  each_list p (parameter_type at written name) = each_list p written
  each_list p (integer_literal at word) = Unit {0}
  each_list p (string_literal at strings) = each_list_of_all p strings
  each_list p (boolean_literal at value) = Unit {0}
  each_list p (null_literal at) = Unit {0}
  each_list p (this_expression at) = Unit {0}
  each_list p (super_expression at) = Unit {0}
  each_list p (identifier at word) = Unit {0}
  each_list p (parenthesis at inner) = each_list p inner
  each_list p (new_expression at written name arguments) = each_list p written × each_list p arguments
  each_list p (list_literal at type_arguments elements) = each_list_of_part p type_arguments × each_list_of_all p elements
  each_list p (set_or_map_literal at type_arguments entries) = each_list_of_part p type_arguments × each_list_of_all p entries
  each_list p (function_expression at parameters body) = each_list p parameters × each_list p body
  each_list p (generic_identifier at name type_arguments) = each_list p type_arguments
  each_list p (property_access at receiver null_aware name) = each_list p receiver
  each_list p (index_expression at receiver null_aware bracket index) = each_list p receiver × each_list p index
  each_list p (null_check at operand) = each_list p operand
  each_list p (call at callee type_arguments arguments) = each_list p callee × each_list_of_part p type_arguments × each_list p arguments
  each_list p (unary_expression at operator operand) = each_list p operand
  each_list p (postfix_expression at operator operand) = each_list p operand
  each_list p (binary_expression at operator left right) = each_list p left × each_list p right
  each_list p (type_test at operand negated written) = each_list p operand × each_list p written
  each_list p (type_cast at operand written) = each_list p operand × each_list p written
  each_list p (conditional at condition then_value else_value) = each_list p condition × each_list p then_value × each_list p else_value
  each_list p (assignment at operator target value) = each_list p target × each_list p value
  each_list p (throw_expression at value) = each_list p value
  each_list p (cascade at receiver null_aware section) = each_list p receiver × each_list p section
  each_list p (cascaded_name at name) = Unit {0}
  each_list p (cascaded_index at bracket index) = each_list p index
  each_list p (simple_string at kind word) = Unit {0}
  each_list p (interpolated_string at elements) = each_list_of_all p elements
  each_list p (string_text at kind word) = Unit {0}
  each_list p (string_interpolation at value) = each_list p value
  each_list p (map_entry at key value) = each_list p key × each_list_of_part p value
  each_list p (argument_list at arguments) = each_list_of_all p arguments
  each_list p (argument at name value) = each_list p value
  each_list p (annotation at name) = Unit {0}
  each_list p (parameter_list at parameters) = each_list_of_all p parameters
  each_list p (parameter at metadata kind is_required is_final written is_field name default_value) = each_list_of_part p written × each_list_of_part p default_value
  each_list p (expression_body at value) = each_list p value
  each_list p (empty_body at) = Unit {0}
  each_list p (native_body at) = Unit {0}
  each_list p (getter at result name body) = each_list_of_part p result × each_list p body
  each_list p (setter at result name parameters body) = each_list_of_part p result × each_list p parameters × each_list p body
  each_list p (plain_function at result name type_parameters parameters body) = each_list_of_part p result × each_list_of_all p type_parameters × each_list p parameters × each_list p body
  each_list p (variable_list at is_final written variables) = each_list_of_part p written × each_list_of_all p variables
  each_list p (variable at name initializer) = each_list_of_part p initializer
  each_list p (block at statements) = p statements
  each_list p (variable_statement at variables) = each_list p variables
  each_list p (function_statement at function) = each_list p function
  each_list p (expression_statement at value) = each_list_of_part p value
  each_list p (if_statement at condition then_branch else_branch) = each_list p condition × each_list p then_branch × each_list_of_part p else_branch
  each_list p (while_statement at condition body) = each_list p condition × each_list p body
  each_list p (do_statement at body condition) = each_list p body × each_list p condition
  each_list p (for_statement at initializer condition updates body) = each_list_of_part p initializer × each_list_of_part p condition × each_list_of_all p updates × each_list p body
  each_list p (for_in_statement at is_final written name iterable body) = each_list_of_part p written × each_list p iterable × each_list p body
  each_list p (for_in_assignment at name iterable body) = each_list p iterable × each_list p body
  each_list p (switch_statement at value cases) = each_list p value × each_list_of_all p cases
  each_list p (switch_case at labels is_default statements) = each_list_of_all p labels × p statements
  each_list p (try_statement at body handlers finally_block) = each_list p body × each_list_of_all p handlers × each_list_of_part p finally_block
  each_list p (catch_clause at written exception stack_trace body) = each_list_of_part p written × each_list p body
  each_list p (return_statement at value) = each_list_of_part p value
  each_list p (break_statement at label) = Unit {0}
  each_list p (continue_statement at label) = Unit {0}
  each_list p (rethrow_statement at) = Unit {0}
  each_list p (labeled_statement at label body) = each_list p body
  each_list p (constructor_declaration at metadata name parameters initializers body) = each_list p parameters × each_list_of_all p initializers × each_list p body
  each_list p (factory_declaration at metadata name parameters body) = each_list p parameters × each_list p body
  each_list p (method_declaration at metadata is_static function) = each_list p function
  each_list p (field_declaration at metadata is_static variables) = each_list p variables
  each_list p (operator_declaration at metadata result name parameters body) = each_list_of_part p result × each_list p parameters × each_list p body
  each_list p (field_initializer at name value) = each_list p value
  each_list p (super_initializer at name arguments) = each_list p arguments
  each_list p (redirection at name arguments) = each_list p arguments
  each_list p (class_declaration at metadata is_abstract name type_parameters superclass mixins interfaces members) = each_list_of_all p type_parameters × each_list_of_part p superclass × each_list_of_all p mixins × each_list_of_all p interfaces × each_list_of_all p members
  each_list p (mixin_declaration at metadata name type_parameters constraints interfaces members) = each_list_of_all p type_parameters × each_list_of_all p constraints × each_list_of_all p interfaces × each_list_of_all p members
  each_list p (type_alias at metadata name written) = each_list p written
  each_list p (function_declaration at metadata function) = each_list p function
  each_list p (variable_declaration at metadata variables) = each_list p variables
  each_list p (library_directive at names) = Unit {0}
  each_list p (import_directive at uri prefix combinators) = each_list p uri
  each_list p (export_directive at uri combinators) = each_list p uri
  each_list p (part_directive at uri) = each_list p uri
  each_list p (part_of_directive at uri) = each_list p uri
  each_list p (part_of_library_directive at names) = Unit {0}
  each_list p (show_combinator at names) = Unit {0}
  each_list p (hide_combinator at names) = Unit {0}
  each_list p (listed_name at word) = Unit {0}
  each_list p (error_node at) = Unit {0}
  each_list p (unit at items) = each_list_of_all p items

  -- so of the trees of a list
  pub each_list_of_all : (Trees → Type 0) → Trees → Type 0
  each_list_of_all p no_more = Unit {0}
  each_list_of_all p (more first rest) = each_list p first × each_list_of_all p rest

  -- and of a part
  pub each_list_of_part : (Trees → Type 0) → Part → Type 0
  each_list_of_part p absent = Unit {0}
  each_list_of_part p (present tree) = each_list p tree
