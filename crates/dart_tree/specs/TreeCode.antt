-- How a tree is stored: the list of its marks, one where a node begins and one where it ends, which says what it was.
use Rattle.std.specs.Prelude.{◌≡◌, List, [], ◌∷◌, ◌++◌, Option, Some, None, refl}
use Rattle.std.proofs.Common.{ap, ◌∙◌}
use Rattle.std.specs.Coded.{Coded, code_by, coded×, coded_list, coded_option}
use Rattle.dart_tree.specs.Tree.{Tree, Trees, Part, no_more, more, absent, present, void_type, named_type, function_type, type_argument_list, type_parameter, parameter_type, integer_literal, string_literal, boolean_literal, null_literal, this_expression, super_expression, identifier, parenthesis, new_expression, list_literal, set_or_map_literal, function_expression, generic_identifier, property_access, index_expression, null_check, call, unary_expression, postfix_expression, binary_expression, type_test, type_cast, conditional, assignment, throw_expression, cascade, cascaded_name, cascaded_index, simple_string, interpolated_string, string_text, string_interpolation, map_entry, argument_list, argument, annotation, parameter_list, parameter, expression_body, empty_body, native_body, getter, setter, plain_function, variable_list, variable, block, variable_statement, function_statement, expression_statement, if_statement, while_statement, do_statement, for_statement, for_in_statement, for_in_assignment, switch_statement, switch_case, try_statement, catch_clause, return_statement, break_statement, continue_statement, rethrow_statement, labeled_statement, constructor_declaration, factory_declaration, method_declaration, field_declaration, operator_declaration, field_initializer, super_initializer, redirection, class_declaration, mixin_declaration, type_alias, function_declaration, variable_declaration, library_directive, import_directive, export_directive, part_directive, part_of_directive, part_of_library_directive, show_combinator, hide_combinator, listed_name, error_node, unit}
use Rattle.dart_tree.specs.declared.places.Place.{Place}
use Rattle.dart_tree.specs.declared.production.Production.{Production}
use Rattle.dart_tree.specs.declared.production.Production.TheVariants as form
use Rattle.dart_tree.specs.contracts.places.Place as place
use Rattle.dart_tree.specs.contracts.production.Production as production

-- a beginning, or an end with what ends there
abbrev pub Marks : Type 0
Marks = List (Option (Production × Place))

-- the place of what is no node
abbrev pub nowhere : Place
nowhere = record { node = record { 0 = 0 }; span = record { start = 0; end = 0 } }

abbrev mutual
  -- the marks of a tree, with others behind them
  pub marks : Tree → Marks → Marks
  marks (void_type at) k = None ∷ Some (form.VoidType, at) ∷ k
  marks (named_type at prefix name arguments nullable) k = None ∷ marks_of_part arguments (Some (form.NamedType prefix name nullable, at) ∷ k)
  marks (function_type at result type_parameters parameters optional nullable) k = None ∷ marks_of_part result (marks_of_all type_parameters (marks_of_all parameters (marks_of_all optional (Some (form.FunctionType nullable, at) ∷ k))))
  marks (type_argument_list at types) k = None ∷ marks_of_all types (Some (form.TypeArgumentList, at) ∷ k)
  marks (type_parameter at name bound) k = None ∷ marks_of_part bound (Some (form.TypeParameter name, at) ∷ k)
  marks (parameter_type at written name) k = None ∷ marks written (Some (form.ParameterType name, at) ∷ k)
  marks (integer_literal at word) k = None ∷ Some (form.IntegerLiteral word, at) ∷ k
  marks (string_literal at strings) k = None ∷ marks_of_all strings (Some (form.StringLiteral, at) ∷ k)
  marks (boolean_literal at value) k = None ∷ Some (form.BooleanLiteral value, at) ∷ k
  marks (null_literal at) k = None ∷ Some (form.NullLiteral, at) ∷ k
  marks (this_expression at) k = None ∷ Some (form.ThisExpression, at) ∷ k
  marks (super_expression at) k = None ∷ Some (form.SuperExpression, at) ∷ k
  marks (identifier at word) k = None ∷ Some (form.Identifier word, at) ∷ k
  marks (parenthesis at inner) k = None ∷ marks inner (Some (form.Parenthesis, at) ∷ k)
  marks (new_expression at written name arguments) k = None ∷ marks written (marks arguments (Some (form.NewExpression name, at) ∷ k))
  marks (list_literal at type_arguments elements) k = None ∷ marks_of_part type_arguments (marks_of_all elements (Some (form.ListLiteral, at) ∷ k))
  marks (set_or_map_literal at type_arguments entries) k = None ∷ marks_of_part type_arguments (marks_of_all entries (Some (form.SetOrMapLiteral, at) ∷ k))
  marks (function_expression at parameters body) k = None ∷ marks parameters (marks body (Some (form.FunctionExpression, at) ∷ k))
  marks (generic_identifier at name type_arguments) k = None ∷ marks type_arguments (Some (form.GenericIdentifier name, at) ∷ k)
  marks (property_access at receiver null_aware name) k = None ∷ marks receiver (Some (form.PropertyAccess null_aware name, at) ∷ k)
  marks (index_expression at receiver null_aware bracket index) k = None ∷ marks receiver (marks index (Some (form.IndexExpression null_aware bracket, at) ∷ k))
  marks (null_check at operand) k = None ∷ marks operand (Some (form.NullCheck, at) ∷ k)
  marks (call at callee type_arguments arguments) k = None ∷ marks callee (marks_of_part type_arguments (marks arguments (Some (form.Call, at) ∷ k)))
  marks (unary_expression at operator operand) k = None ∷ marks operand (Some (form.UnaryExpression operator, at) ∷ k)
  marks (postfix_expression at operator operand) k = None ∷ marks operand (Some (form.PostfixExpression operator, at) ∷ k)
  marks (binary_expression at operator left right) k = None ∷ marks left (marks right (Some (form.BinaryExpression operator, at) ∷ k))
  marks (type_test at operand negated written) k = None ∷ marks operand (marks written (Some (form.TypeTest negated, at) ∷ k))
  marks (type_cast at operand written) k = None ∷ marks operand (marks written (Some (form.TypeCast, at) ∷ k))
  marks (conditional at condition then_value else_value) k = None ∷ marks condition (marks then_value (marks else_value (Some (form.Conditional, at) ∷ k)))
  marks (assignment at operator target value) k = None ∷ marks target (marks value (Some (form.Assignment operator, at) ∷ k))
  marks (throw_expression at value) k = None ∷ marks value (Some (form.ThrowExpression, at) ∷ k)
  marks (cascade at receiver null_aware section) k = None ∷ marks receiver (marks section (Some (form.Cascade null_aware, at) ∷ k))
  marks (cascaded_name at name) k = None ∷ Some (form.CascadedName name, at) ∷ k
  marks (cascaded_index at bracket index) k = None ∷ marks index (Some (form.CascadedIndex bracket, at) ∷ k)
  marks (simple_string at kind word) k = None ∷ Some (form.SimpleString kind word, at) ∷ k
  marks (interpolated_string at elements) k = None ∷ marks_of_all elements (Some (form.InterpolatedString, at) ∷ k)
  marks (string_text at kind word) k = None ∷ Some (form.StringText kind word, at) ∷ k
  marks (string_interpolation at value) k = None ∷ marks value (Some (form.StringInterpolation, at) ∷ k)
  marks (map_entry at key value) k = None ∷ marks key (marks_of_part value (Some (form.MapEntry, at) ∷ k))
  marks (argument_list at arguments) k = None ∷ marks_of_all arguments (Some (form.ArgumentList, at) ∷ k)
  marks (argument at name value) k = None ∷ marks value (Some (form.Argument name, at) ∷ k)
  marks (annotation at name) k = None ∷ Some (form.Annotation name, at) ∷ k
  marks (parameter_list at parameters) k = None ∷ marks_of_all parameters (Some (form.ParameterList, at) ∷ k)
  marks (parameter at metadata kind is_required is_final written is_field name default_value) k = None ∷ marks_of_all metadata (marks_of_part written (marks_of_part default_value (Some (form.Parameter kind is_required is_final is_field name, at) ∷ k)))
  marks (expression_body at value) k = None ∷ marks value (Some (form.ExpressionBody, at) ∷ k)
  marks (empty_body at) k = None ∷ Some (form.EmptyBody, at) ∷ k
  marks (native_body at) k = None ∷ Some (form.NativeBody, at) ∷ k
  marks (getter at result name body) k = None ∷ marks_of_part result (marks body (Some (form.Getter name, at) ∷ k))
  marks (setter at result name parameters body) k = None ∷ marks_of_part result (marks parameters (marks body (Some (form.Setter name, at) ∷ k)))
  marks (plain_function at result name type_parameters parameters body) k = None ∷ marks_of_part result (marks_of_all type_parameters (marks parameters (marks body (Some (form.PlainFunction name, at) ∷ k))))
  marks (variable_list at is_final written variables) k = None ∷ marks_of_part written (marks_of_all variables (Some (form.VariableList is_final, at) ∷ k))
  marks (variable at name initializer) k = None ∷ marks_of_part initializer (Some (form.Variable name, at) ∷ k)
  marks (block at statements) k = None ∷ marks_of_all statements (Some (form.Block, at) ∷ k)
  marks (variable_statement at variables) k = None ∷ marks variables (Some (form.VariableStatement, at) ∷ k)
  marks (function_statement at function) k = None ∷ marks function (Some (form.FunctionStatement, at) ∷ k)
  marks (expression_statement at value) k = None ∷ marks_of_part value (Some (form.ExpressionStatement, at) ∷ k)
  marks (if_statement at condition then_branch else_branch) k = None ∷ marks condition (marks then_branch (marks_of_part else_branch (Some (form.IfStatement, at) ∷ k)))
  marks (while_statement at condition body) k = None ∷ marks condition (marks body (Some (form.WhileStatement, at) ∷ k))
  marks (do_statement at body condition) k = None ∷ marks body (marks condition (Some (form.DoStatement, at) ∷ k))
  marks (for_statement at initializer condition updates body) k = None ∷ marks_of_part initializer (marks_of_part condition (marks_of_all updates (marks body (Some (form.ForStatement, at) ∷ k))))
  marks (for_in_statement at is_final written name iterable body) k = None ∷ marks_of_part written (marks iterable (marks body (Some (form.ForInStatement is_final name, at) ∷ k)))
  marks (for_in_assignment at name iterable body) k = None ∷ marks iterable (marks body (Some (form.ForInAssignment name, at) ∷ k))
  marks (switch_statement at value cases) k = None ∷ marks value (marks_of_all cases (Some (form.SwitchStatement, at) ∷ k))
  marks (switch_case at labels is_default statements) k = None ∷ marks_of_all labels (marks_of_all statements (Some (form.SwitchCase is_default, at) ∷ k))
  marks (try_statement at body handlers finally_block) k = None ∷ marks body (marks_of_all handlers (marks_of_part finally_block (Some (form.TryStatement, at) ∷ k)))
  marks (catch_clause at written exception stack_trace body) k = None ∷ marks_of_part written (marks_of_part exception (marks_of_part stack_trace (marks body (Some (form.CatchClause, at) ∷ k))))
  marks (return_statement at value) k = None ∷ marks_of_part value (Some (form.ReturnStatement, at) ∷ k)
  marks (break_statement at label) k = None ∷ Some (form.BreakStatement label, at) ∷ k
  marks (continue_statement at label) k = None ∷ Some (form.ContinueStatement label, at) ∷ k
  marks (rethrow_statement at) k = None ∷ Some (form.RethrowStatement, at) ∷ k
  marks (labeled_statement at label body) k = None ∷ marks body (Some (form.LabeledStatement label, at) ∷ k)
  marks (constructor_declaration at metadata name parameters initializers body) k = None ∷ marks_of_all metadata (marks parameters (marks_of_all initializers (marks body (Some (form.ConstructorDeclaration name, at) ∷ k))))
  marks (factory_declaration at metadata name parameters body) k = None ∷ marks_of_all metadata (marks parameters (marks body (Some (form.FactoryDeclaration name, at) ∷ k)))
  marks (method_declaration at metadata is_static function) k = None ∷ marks_of_all metadata (marks function (Some (form.MethodDeclaration is_static, at) ∷ k))
  marks (field_declaration at metadata is_static variables) k = None ∷ marks_of_all metadata (marks variables (Some (form.FieldDeclaration is_static, at) ∷ k))
  marks (operator_declaration at metadata result name parameters body) k = None ∷ marks_of_all metadata (marks_of_part result (marks parameters (marks body (Some (form.OperatorDeclaration name, at) ∷ k))))
  marks (field_initializer at name value) k = None ∷ marks value (Some (form.FieldInitializer name, at) ∷ k)
  marks (super_initializer at name arguments) k = None ∷ marks arguments (Some (form.SuperInitializer name, at) ∷ k)
  marks (redirection at name arguments) k = None ∷ marks arguments (Some (form.Redirection name, at) ∷ k)
  marks (class_declaration at metadata is_abstract name type_parameters superclass mixins interfaces members) k = None ∷ marks_of_all metadata (marks_of_all type_parameters (marks_of_part superclass (marks_of_all mixins (marks_of_all interfaces (marks_of_all members (Some (form.ClassDeclaration is_abstract name, at) ∷ k))))))
  marks (mixin_declaration at metadata name type_parameters constraints interfaces members) k = None ∷ marks_of_all metadata (marks_of_all type_parameters (marks_of_all constraints (marks_of_all interfaces (marks_of_all members (Some (form.MixinDeclaration name, at) ∷ k)))))
  marks (type_alias at metadata name written) k = None ∷ marks_of_all metadata (marks written (Some (form.TypeAlias name, at) ∷ k))
  marks (function_declaration at metadata function) k = None ∷ marks_of_all metadata (marks function (Some (form.FunctionDeclaration, at) ∷ k))
  marks (variable_declaration at metadata variables) k = None ∷ marks_of_all metadata (marks variables (Some (form.VariableDeclaration, at) ∷ k))
  marks (library_directive at names) k = None ∷ marks_of_all names (Some (form.LibraryDirective, at) ∷ k)
  marks (import_directive at uri prefix combinators) k = None ∷ marks uri (marks_of_part prefix (marks_of_all combinators (Some (form.ImportDirective, at) ∷ k)))
  marks (export_directive at uri combinators) k = None ∷ marks uri (marks_of_all combinators (Some (form.ExportDirective, at) ∷ k))
  marks (part_directive at uri) k = None ∷ marks uri (Some (form.PartDirective, at) ∷ k)
  marks (part_of_directive at uri) k = None ∷ marks uri (Some (form.PartOfDirective, at) ∷ k)
  marks (part_of_library_directive at names) k = None ∷ marks_of_all names (Some (form.PartOfLibraryDirective, at) ∷ k)
  marks (show_combinator at names) k = None ∷ marks_of_all names (Some (form.ShowCombinator, at) ∷ k)
  marks (hide_combinator at names) k = None ∷ marks_of_all names (Some (form.HideCombinator, at) ∷ k)
  marks (listed_name at word) k = None ∷ Some (form.ListedName word, at) ∷ k
  marks (error_node at) k = None ∷ Some (form.ErrorNode, at) ∷ k
  marks (unit at items) k = None ∷ marks_of_all items (Some (form.Unit, at) ∷ k)

  -- the marks of a list of trees, with others behind them
  pub marks_of_all : Trees → Marks → Marks
  marks_of_all no_more k = None ∷ Some (form.NoMore, nowhere) ∷ k
  marks_of_all (more first rest) k = None ∷ marks first (marks_of_all rest (Some (form.More, nowhere) ∷ k))

  -- the marks of a part that may be left out, with others behind them
  pub marks_of_part : Part → Marks → Marks
  marks_of_part absent k = None ∷ Some (form.Absent, nowhere) ∷ k
  marks_of_part (present tree) k = None ∷ marks tree (Some (form.Present, nowhere) ∷ k)

-- what marks were read as: a tree, a list of trees, or a part
pub data Held : Type 0 where
  One : Tree → Held
  All : Trees → Held
  Maybe : Part → Held

-- the tree that is read where there is none
abbrev pub no_tree : Tree
no_tree = error_node nowhere

-- the first of what was read, as a tree
abbrev pub one_of : List Held → Tree
one_of [] = no_tree
one_of (One t ∷ hs) = t
one_of (All ts ∷ hs) = no_tree
one_of (Maybe p ∷ hs) = no_tree

-- the first of what was read, as a list of trees
abbrev pub all_of : List Held → Trees
all_of [] = no_more
all_of (One t ∷ hs) = no_more
all_of (All ts ∷ hs) = ts
all_of (Maybe p ∷ hs) = no_more

-- the first of what was read, as a part
abbrev pub part_in : List Held → Part
part_in [] = absent
part_in (One t ∷ hs) = absent
part_in (All ts ∷ hs) = absent
part_in (Maybe p ∷ hs) = p

-- what was read after the first
abbrev pub next : List Held → List Held
next [] = []
next (h ∷ hs) = hs

-- what a production makes of what was read within it
abbrev pub build : Production → Place → List Held → Held
build form.NoMore at hs = All no_more
build form.More at hs = All (more (one_of hs) (all_of (next hs)))
build form.Absent at hs = Maybe absent
build form.Present at hs = Maybe (present (one_of hs))
build form.VoidType at hs = One (void_type at)
build (form.NamedType prefix name nullable) at hs = One (named_type at prefix name (part_in hs) nullable)
build (form.FunctionType nullable) at hs = One (function_type at (part_in hs) (all_of (next hs)) (all_of (next (next hs))) (all_of (next (next (next hs)))) nullable)
build form.TypeArgumentList at hs = One (type_argument_list at (all_of hs))
build (form.TypeParameter name) at hs = One (type_parameter at name (part_in hs))
build (form.ParameterType name) at hs = One (parameter_type at (one_of hs) name)
build (form.IntegerLiteral word) at hs = One (integer_literal at word)
build form.StringLiteral at hs = One (string_literal at (all_of hs))
build (form.BooleanLiteral value) at hs = One (boolean_literal at value)
build form.NullLiteral at hs = One (null_literal at)
build form.ThisExpression at hs = One (this_expression at)
build form.SuperExpression at hs = One (super_expression at)
build (form.Identifier word) at hs = One (identifier at word)
build form.Parenthesis at hs = One (parenthesis at (one_of hs))
build (form.NewExpression name) at hs = One (new_expression at (one_of hs) name (one_of (next hs)))
build form.ListLiteral at hs = One (list_literal at (part_in hs) (all_of (next hs)))
build form.SetOrMapLiteral at hs = One (set_or_map_literal at (part_in hs) (all_of (next hs)))
build form.FunctionExpression at hs = One (function_expression at (one_of hs) (one_of (next hs)))
build (form.GenericIdentifier name) at hs = One (generic_identifier at name (one_of hs))
build (form.PropertyAccess null_aware name) at hs = One (property_access at (one_of hs) null_aware name)
build (form.IndexExpression null_aware bracket) at hs = One (index_expression at (one_of hs) null_aware bracket (one_of (next hs)))
build form.NullCheck at hs = One (null_check at (one_of hs))
build form.Call at hs = One (call at (one_of hs) (part_in (next hs)) (one_of (next (next hs))))
build (form.UnaryExpression operator) at hs = One (unary_expression at operator (one_of hs))
build (form.PostfixExpression operator) at hs = One (postfix_expression at operator (one_of hs))
build (form.BinaryExpression operator) at hs = One (binary_expression at operator (one_of hs) (one_of (next hs)))
build (form.TypeTest negated) at hs = One (type_test at (one_of hs) negated (one_of (next hs)))
build form.TypeCast at hs = One (type_cast at (one_of hs) (one_of (next hs)))
build form.Conditional at hs = One (conditional at (one_of hs) (one_of (next hs)) (one_of (next (next hs))))
build (form.Assignment operator) at hs = One (assignment at operator (one_of hs) (one_of (next hs)))
build form.ThrowExpression at hs = One (throw_expression at (one_of hs))
build (form.Cascade null_aware) at hs = One (cascade at (one_of hs) null_aware (one_of (next hs)))
build (form.CascadedName name) at hs = One (cascaded_name at name)
build (form.CascadedIndex bracket) at hs = One (cascaded_index at bracket (one_of hs))
build (form.SimpleString kind word) at hs = One (simple_string at kind word)
build form.InterpolatedString at hs = One (interpolated_string at (all_of hs))
build (form.StringText kind word) at hs = One (string_text at kind word)
build form.StringInterpolation at hs = One (string_interpolation at (one_of hs))
build form.MapEntry at hs = One (map_entry at (one_of hs) (part_in (next hs)))
build form.ArgumentList at hs = One (argument_list at (all_of hs))
build (form.Argument name) at hs = One (argument at name (one_of hs))
build (form.Annotation name) at hs = One (annotation at name)
build form.ParameterList at hs = One (parameter_list at (all_of hs))
build (form.Parameter kind is_required is_final is_field name) at hs = One (parameter at (all_of hs) kind is_required is_final (part_in (next hs)) is_field name (part_in (next (next hs))))
build form.ExpressionBody at hs = One (expression_body at (one_of hs))
build form.EmptyBody at hs = One (empty_body at)
build form.NativeBody at hs = One (native_body at)
build (form.Getter name) at hs = One (getter at (part_in hs) name (one_of (next hs)))
build (form.Setter name) at hs = One (setter at (part_in hs) name (one_of (next hs)) (one_of (next (next hs))))
build (form.PlainFunction name) at hs = One (plain_function at (part_in hs) name (all_of (next hs)) (one_of (next (next hs))) (one_of (next (next (next hs)))))
build (form.VariableList is_final) at hs = One (variable_list at is_final (part_in hs) (all_of (next hs)))
build (form.Variable name) at hs = One (variable at name (part_in hs))
build form.Block at hs = One (block at (all_of hs))
build form.VariableStatement at hs = One (variable_statement at (one_of hs))
build form.FunctionStatement at hs = One (function_statement at (one_of hs))
build form.ExpressionStatement at hs = One (expression_statement at (part_in hs))
build form.IfStatement at hs = One (if_statement at (one_of hs) (one_of (next hs)) (part_in (next (next hs))))
build form.WhileStatement at hs = One (while_statement at (one_of hs) (one_of (next hs)))
build form.DoStatement at hs = One (do_statement at (one_of hs) (one_of (next hs)))
build form.ForStatement at hs = One (for_statement at (part_in hs) (part_in (next hs)) (all_of (next (next hs))) (one_of (next (next (next hs)))))
build (form.ForInStatement is_final name) at hs = One (for_in_statement at is_final (part_in hs) name (one_of (next hs)) (one_of (next (next hs))))
build (form.ForInAssignment name) at hs = One (for_in_assignment at name (one_of hs) (one_of (next hs)))
build form.SwitchStatement at hs = One (switch_statement at (one_of hs) (all_of (next hs)))
build (form.SwitchCase is_default) at hs = One (switch_case at (all_of hs) is_default (all_of (next hs)))
build form.TryStatement at hs = One (try_statement at (one_of hs) (all_of (next hs)) (part_in (next (next hs))))
build form.CatchClause at hs = One (catch_clause at (part_in hs) (part_in (next hs)) (part_in (next (next hs))) (one_of (next (next (next hs)))))
build form.ReturnStatement at hs = One (return_statement at (part_in hs))
build (form.BreakStatement label) at hs = One (break_statement at label)
build (form.ContinueStatement label) at hs = One (continue_statement at label)
build form.RethrowStatement at hs = One (rethrow_statement at)
build (form.LabeledStatement label) at hs = One (labeled_statement at label (one_of hs))
build (form.ConstructorDeclaration name) at hs = One (constructor_declaration at (all_of hs) name (one_of (next hs)) (all_of (next (next hs))) (one_of (next (next (next hs)))))
build (form.FactoryDeclaration name) at hs = One (factory_declaration at (all_of hs) name (one_of (next hs)) (one_of (next (next hs))))
build (form.MethodDeclaration is_static) at hs = One (method_declaration at (all_of hs) is_static (one_of (next hs)))
build (form.FieldDeclaration is_static) at hs = One (field_declaration at (all_of hs) is_static (one_of (next hs)))
build (form.OperatorDeclaration name) at hs = One (operator_declaration at (all_of hs) (part_in (next hs)) name (one_of (next (next hs))) (one_of (next (next (next hs)))))
build (form.FieldInitializer name) at hs = One (field_initializer at name (one_of hs))
build (form.SuperInitializer name) at hs = One (super_initializer at name (one_of hs))
build (form.Redirection name) at hs = One (redirection at name (one_of hs))
build (form.ClassDeclaration is_abstract name) at hs = One (class_declaration at (all_of hs) is_abstract name (all_of (next hs)) (part_in (next (next hs))) (all_of (next (next (next hs)))) (all_of (next (next (next (next hs))))) (all_of (next (next (next (next (next hs)))))))
build (form.MixinDeclaration name) at hs = One (mixin_declaration at (all_of hs) name (all_of (next hs)) (all_of (next (next hs))) (all_of (next (next (next hs)))) (all_of (next (next (next (next hs))))))
build (form.TypeAlias name) at hs = One (type_alias at (all_of hs) name (one_of (next hs)))
build form.FunctionDeclaration at hs = One (function_declaration at (all_of hs) (one_of (next hs)))
build form.VariableDeclaration at hs = One (variable_declaration at (all_of hs) (one_of (next hs)))
build form.LibraryDirective at hs = One (library_directive at (all_of hs))
build form.ImportDirective at hs = One (import_directive at (one_of hs) (part_in (next hs)) (all_of (next (next hs))))
build form.ExportDirective at hs = One (export_directive at (one_of hs) (all_of (next hs)))
build form.PartDirective at hs = One (part_directive at (one_of hs))
build form.PartOfDirective at hs = One (part_of_directive at (one_of hs))
build form.PartOfLibraryDirective at hs = One (part_of_library_directive at (all_of hs))
build form.ShowCombinator at hs = One (show_combinator at (all_of hs))
build form.HideCombinator at hs = One (hide_combinator at (all_of hs))
build (form.ListedName word) at hs = One (listed_name at word)
build form.ErrorNode at hs = One (error_node at)
build form.Unit at hs = One (unit at (all_of hs))

-- an end closes the innermost node that has begun
abbrev pub close : Production × Place → List (List Held) → List (List Held)
close x [] = []
close x (hs ∷ []) = []
close x (hs ∷ gs ∷ s) = (gs ++ build x.0 x.1 hs ∷ []) ∷ s

-- a mark is read: a node begins, or ends
abbrev pub read_mark : Option (Production × Place) → List (List Held) → List (List Held)
read_mark None s = [] ∷ s
read_mark (Some x) s = close x s

-- marks are read from the first on
abbrev pub read : Marks → List (List Held) → List (List Held)
read [] s = s
read (m ∷ ms) s = read ms (read_mark m s)

mutual
  -- reading a tree's marks gives the tree
  pub read-marks : (t : Tree) (k : Marks) (hs : List Held) (s : List (List Held)) → read (marks t k) (hs ∷ s) ≡ read k ((hs ++ One t ∷ []) ∷ s)
  read-marks (void_type at) k hs s = refl
  read-marks (named_type at prefix name arguments nullable) k hs s = read-part arguments _ _ _
  read-marks (function_type at result type_parameters parameters optional nullable) k hs s = read-part result _ _ _ ∙ read-all type_parameters _ _ _ ∙ read-all parameters _ _ _ ∙ read-all optional _ _ _
  read-marks (type_argument_list at types) k hs s = read-all types _ _ _
  read-marks (type_parameter at name bound) k hs s = read-part bound _ _ _
  read-marks (parameter_type at written name) k hs s = read-marks written _ _ _
  read-marks (integer_literal at word) k hs s = refl
  read-marks (string_literal at strings) k hs s = read-all strings _ _ _
  read-marks (boolean_literal at value) k hs s = refl
  read-marks (null_literal at) k hs s = refl
  read-marks (this_expression at) k hs s = refl
  read-marks (super_expression at) k hs s = refl
  read-marks (identifier at word) k hs s = refl
  read-marks (parenthesis at inner) k hs s = read-marks inner _ _ _
  read-marks (new_expression at written name arguments) k hs s = read-marks written _ _ _ ∙ read-marks arguments _ _ _
  read-marks (list_literal at type_arguments elements) k hs s = read-part type_arguments _ _ _ ∙ read-all elements _ _ _
  read-marks (set_or_map_literal at type_arguments entries) k hs s = read-part type_arguments _ _ _ ∙ read-all entries _ _ _
  read-marks (function_expression at parameters body) k hs s = read-marks parameters _ _ _ ∙ read-marks body _ _ _
  read-marks (generic_identifier at name type_arguments) k hs s = read-marks type_arguments _ _ _
  read-marks (property_access at receiver null_aware name) k hs s = read-marks receiver _ _ _
  read-marks (index_expression at receiver null_aware bracket index) k hs s = read-marks receiver _ _ _ ∙ read-marks index _ _ _
  read-marks (null_check at operand) k hs s = read-marks operand _ _ _
  read-marks (call at callee type_arguments arguments) k hs s = read-marks callee _ _ _ ∙ read-part type_arguments _ _ _ ∙ read-marks arguments _ _ _
  read-marks (unary_expression at operator operand) k hs s = read-marks operand _ _ _
  read-marks (postfix_expression at operator operand) k hs s = read-marks operand _ _ _
  read-marks (binary_expression at operator left right) k hs s = read-marks left _ _ _ ∙ read-marks right _ _ _
  read-marks (type_test at operand negated written) k hs s = read-marks operand _ _ _ ∙ read-marks written _ _ _
  read-marks (type_cast at operand written) k hs s = read-marks operand _ _ _ ∙ read-marks written _ _ _
  read-marks (conditional at condition then_value else_value) k hs s = read-marks condition _ _ _ ∙ read-marks then_value _ _ _ ∙ read-marks else_value _ _ _
  read-marks (assignment at operator target value) k hs s = read-marks target _ _ _ ∙ read-marks value _ _ _
  read-marks (throw_expression at value) k hs s = read-marks value _ _ _
  read-marks (cascade at receiver null_aware section) k hs s = read-marks receiver _ _ _ ∙ read-marks section _ _ _
  read-marks (cascaded_name at name) k hs s = refl
  read-marks (cascaded_index at bracket index) k hs s = read-marks index _ _ _
  read-marks (simple_string at kind word) k hs s = refl
  read-marks (interpolated_string at elements) k hs s = read-all elements _ _ _
  read-marks (string_text at kind word) k hs s = refl
  read-marks (string_interpolation at value) k hs s = read-marks value _ _ _
  read-marks (map_entry at key value) k hs s = read-marks key _ _ _ ∙ read-part value _ _ _
  read-marks (argument_list at arguments) k hs s = read-all arguments _ _ _
  read-marks (argument at name value) k hs s = read-marks value _ _ _
  read-marks (annotation at name) k hs s = refl
  read-marks (parameter_list at parameters) k hs s = read-all parameters _ _ _
  read-marks (parameter at metadata kind is_required is_final written is_field name default_value) k hs s = read-all metadata _ _ _ ∙ read-part written _ _ _ ∙ read-part default_value _ _ _
  read-marks (expression_body at value) k hs s = read-marks value _ _ _
  read-marks (empty_body at) k hs s = refl
  read-marks (native_body at) k hs s = refl
  read-marks (getter at result name body) k hs s = read-part result _ _ _ ∙ read-marks body _ _ _
  read-marks (setter at result name parameters body) k hs s = read-part result _ _ _ ∙ read-marks parameters _ _ _ ∙ read-marks body _ _ _
  read-marks (plain_function at result name type_parameters parameters body) k hs s = read-part result _ _ _ ∙ read-all type_parameters _ _ _ ∙ read-marks parameters _ _ _ ∙ read-marks body _ _ _
  read-marks (variable_list at is_final written variables) k hs s = read-part written _ _ _ ∙ read-all variables _ _ _
  read-marks (variable at name initializer) k hs s = read-part initializer _ _ _
  read-marks (block at statements) k hs s = read-all statements _ _ _
  read-marks (variable_statement at variables) k hs s = read-marks variables _ _ _
  read-marks (function_statement at function) k hs s = read-marks function _ _ _
  read-marks (expression_statement at value) k hs s = read-part value _ _ _
  read-marks (if_statement at condition then_branch else_branch) k hs s = read-marks condition _ _ _ ∙ read-marks then_branch _ _ _ ∙ read-part else_branch _ _ _
  read-marks (while_statement at condition body) k hs s = read-marks condition _ _ _ ∙ read-marks body _ _ _
  read-marks (do_statement at body condition) k hs s = read-marks body _ _ _ ∙ read-marks condition _ _ _
  read-marks (for_statement at initializer condition updates body) k hs s = read-part initializer _ _ _ ∙ read-part condition _ _ _ ∙ read-all updates _ _ _ ∙ read-marks body _ _ _
  read-marks (for_in_statement at is_final written name iterable body) k hs s = read-part written _ _ _ ∙ read-marks iterable _ _ _ ∙ read-marks body _ _ _
  read-marks (for_in_assignment at name iterable body) k hs s = read-marks iterable _ _ _ ∙ read-marks body _ _ _
  read-marks (switch_statement at value cases) k hs s = read-marks value _ _ _ ∙ read-all cases _ _ _
  read-marks (switch_case at labels is_default statements) k hs s = read-all labels _ _ _ ∙ read-all statements _ _ _
  read-marks (try_statement at body handlers finally_block) k hs s = read-marks body _ _ _ ∙ read-all handlers _ _ _ ∙ read-part finally_block _ _ _
  read-marks (catch_clause at written exception stack_trace body) k hs s = read-part written _ _ _ ∙ read-part exception _ _ _ ∙ read-part stack_trace _ _ _ ∙ read-marks body _ _ _
  read-marks (return_statement at value) k hs s = read-part value _ _ _
  read-marks (break_statement at label) k hs s = refl
  read-marks (continue_statement at label) k hs s = refl
  read-marks (rethrow_statement at) k hs s = refl
  read-marks (labeled_statement at label body) k hs s = read-marks body _ _ _
  read-marks (constructor_declaration at metadata name parameters initializers body) k hs s = read-all metadata _ _ _ ∙ read-marks parameters _ _ _ ∙ read-all initializers _ _ _ ∙ read-marks body _ _ _
  read-marks (factory_declaration at metadata name parameters body) k hs s = read-all metadata _ _ _ ∙ read-marks parameters _ _ _ ∙ read-marks body _ _ _
  read-marks (method_declaration at metadata is_static function) k hs s = read-all metadata _ _ _ ∙ read-marks function _ _ _
  read-marks (field_declaration at metadata is_static variables) k hs s = read-all metadata _ _ _ ∙ read-marks variables _ _ _
  read-marks (operator_declaration at metadata result name parameters body) k hs s = read-all metadata _ _ _ ∙ read-part result _ _ _ ∙ read-marks parameters _ _ _ ∙ read-marks body _ _ _
  read-marks (field_initializer at name value) k hs s = read-marks value _ _ _
  read-marks (super_initializer at name arguments) k hs s = read-marks arguments _ _ _
  read-marks (redirection at name arguments) k hs s = read-marks arguments _ _ _
  read-marks (class_declaration at metadata is_abstract name type_parameters superclass mixins interfaces members) k hs s = read-all metadata _ _ _ ∙ read-all type_parameters _ _ _ ∙ read-part superclass _ _ _ ∙ read-all mixins _ _ _ ∙ read-all interfaces _ _ _ ∙ read-all members _ _ _
  read-marks (mixin_declaration at metadata name type_parameters constraints interfaces members) k hs s = read-all metadata _ _ _ ∙ read-all type_parameters _ _ _ ∙ read-all constraints _ _ _ ∙ read-all interfaces _ _ _ ∙ read-all members _ _ _
  read-marks (type_alias at metadata name written) k hs s = read-all metadata _ _ _ ∙ read-marks written _ _ _
  read-marks (function_declaration at metadata function) k hs s = read-all metadata _ _ _ ∙ read-marks function _ _ _
  read-marks (variable_declaration at metadata variables) k hs s = read-all metadata _ _ _ ∙ read-marks variables _ _ _
  read-marks (library_directive at names) k hs s = read-all names _ _ _
  read-marks (import_directive at uri prefix combinators) k hs s = read-marks uri _ _ _ ∙ read-part prefix _ _ _ ∙ read-all combinators _ _ _
  read-marks (export_directive at uri combinators) k hs s = read-marks uri _ _ _ ∙ read-all combinators _ _ _
  read-marks (part_directive at uri) k hs s = read-marks uri _ _ _
  read-marks (part_of_directive at uri) k hs s = read-marks uri _ _ _
  read-marks (part_of_library_directive at names) k hs s = read-all names _ _ _
  read-marks (show_combinator at names) k hs s = read-all names _ _ _
  read-marks (hide_combinator at names) k hs s = read-all names _ _ _
  read-marks (listed_name at word) k hs s = refl
  read-marks (error_node at) k hs s = refl
  read-marks (unit at items) k hs s = read-all items _ _ _

  -- reading the marks of a list of trees gives the list
  pub read-all : (ts : Trees) (k : Marks) (hs : List Held) (s : List (List Held)) → read (marks_of_all ts k) (hs ∷ s) ≡ read k ((hs ++ All ts ∷ []) ∷ s)
  read-all no_more k hs s = refl
  read-all (more first rest) k hs s = read-marks first _ _ _ ∙ read-all rest _ _ _

  -- reading the marks of a part gives the part
  pub read-part : (p : Part) (k : Marks) (hs : List Held) (s : List (List Held)) → read (marks_of_part p k) (hs ∷ s) ≡ read k ((hs ++ Maybe p ∷ []) ∷ s)
  read-part absent k hs s = refl
  read-part (present tree) k hs s = read-marks tree _ _ _

-- what was read innermost
abbrev pub top_of : List (List Held) → List Held
top_of [] = []
top_of (hs ∷ s) = hs

-- the tree of marks
abbrev pub tree_in : Marks → Tree
tree_in ms = one_of (top_of (read ms ([] ∷ [])))

-- the marks of a tree
abbrev pub marks_of : Tree → Marks
marks_of t = marks t []

-- the marks of a tree give the tree back
pub tree_in-marks_of : (t : Tree) → tree_in (marks_of t) ≡ t
tree_in-marks_of t = ap (λ (s : List (List Held)). one_of (top_of s)) (read-marks t [] [] [])

-- a tree is stored as its marks
abbrev pub tree_code : Coded Tree
tree_code =
    code_by Marks (coded_list (coded_option (coded× production.the_row.coded place.the_row.coded))) marks_of tree_in tree_in-marks_of
