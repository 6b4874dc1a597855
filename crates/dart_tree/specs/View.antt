-- What each form of a node is as a tree: one level, as the nodes in it are trees already.
use Rattle.std.specs.Prelude.{Some, None}
use Rattle.dart_tree.specs.Tree.{Tree, Part, absent, present, trees_of, part_of, void_type, named_type, function_type, integer_literal, string_literal, boolean_literal, null_literal, this_expression, super_expression, identifier, parenthesis, new_expression, list_literal, set_or_map_literal, function_expression, generic_identifier, property_access, index_expression, null_check, call, unary_expression, postfix_expression, binary_expression, type_test, type_cast, conditional, assignment, throw_expression, cascade, cascaded_name, cascaded_index, simple_string, interpolated_string, string_text, string_interpolation, block, expression_body, empty_body, native_body, getter, setter, plain_function, variable_statement, function_statement, expression_statement, if_statement, while_statement, do_statement, for_statement, for_in_statement, for_in_assignment, switch_statement, try_statement, return_statement, break_statement, continue_statement, rethrow_statement, labeled_statement, error_node, constructor_declaration, factory_declaration, method_declaration, field_declaration, operator_declaration, field_initializer, super_initializer, redirection, class_declaration, mixin_declaration, type_alias, function_declaration, variable_declaration, library_directive, import_directive, export_directive, part_directive, part_of_directive, part_of_library_directive, show_combinator, hide_combinator}
use Rattle.dart_tree.specs.declared.types.WrittenTypeNode.{WrittenTypeNode}
use Rattle.dart_tree.specs.declared.types.WrittenTypeNode.TheVariants as written_type
use Rattle.dart_tree.specs.declared.expressions.ExprNode.{ExprNode}
use Rattle.dart_tree.specs.declared.expressions.ExprNode.TheVariants as expr
use Rattle.dart_tree.specs.declared.expressions.StringLiteralNode.{StringLiteralNode}
use Rattle.dart_tree.specs.declared.expressions.StringLiteralNode.TheVariants as string_literal
use Rattle.dart_tree.specs.declared.expressions.StringElementNode.{StringElementNode}
use Rattle.dart_tree.specs.declared.expressions.StringElementNode.TheVariants as string_element
use Rattle.dart_tree.specs.declared.functions.BodyNode.{BodyNode}
use Rattle.dart_tree.specs.declared.functions.BodyNode.TheVariants as body
use Rattle.dart_tree.specs.declared.functions.FunctionNode.{FunctionNode}
use Rattle.dart_tree.specs.declared.functions.FunctionNode.TheVariants as function
use Rattle.dart_tree.specs.declared.statements.StmtNode.{StmtNode}
use Rattle.dart_tree.specs.declared.statements.StmtNode.TheVariants as stmt
use Rattle.dart_tree.specs.declared.members.ReadMember.{ReadMember}
use Rattle.dart_tree.specs.declared.members.ReadMember.TheVariants as member
use Rattle.dart_tree.specs.declared.members.MemberNode.{MemberNode}
use Rattle.dart_tree.specs.declared.members.MemberNode.TheVariants as member_node
use Rattle.dart_tree.specs.declared.members.InitializerNode.{InitializerNode}
use Rattle.dart_tree.specs.declared.members.InitializerNode.TheVariants as initializer
use Rattle.dart_tree.specs.declared.unit.ReadItem.{ReadItem}
use Rattle.dart_tree.specs.declared.unit.ReadItem.TheVariants as item
use Rattle.dart_tree.specs.declared.unit.ItemNode.{ItemNode}
use Rattle.dart_tree.specs.declared.unit.ItemNode.TheVariants as item_node
use Rattle.dart_tree.specs.declared.unit.CombinatorNode.{CombinatorNode}
use Rattle.dart_tree.specs.declared.unit.CombinatorNode.TheVariants as combinator
use Rattle.dart_tree.specs.declared.statements.ForInitializer.{ForInitializer}
use Rattle.dart_tree.specs.declared.statements.ForInitializer.TheVariants as for_initializer

-- what a `for` begins with, as a part
abbrev pub for_initializer_of : ForInitializer → Part
for_initializer_of for_initializer.Absent = absent
for_initializer_of (for_initializer.Variables variables) = present variables
for_initializer_of (for_initializer.Expression value) = present value

-- a type as it is written
abbrev pub written_type_of : WrittenTypeNode → Tree
written_type_of (written_type.Void at) = void_type at
written_type_of (written_type.Named at prefix name arguments nullable) = named_type at prefix name (part_of arguments) nullable
written_type_of (written_type.Function at result parts nullable) = function_type at (part_of result) (trees_of parts.value.type_parameters.items) (trees_of parts.value.parameters.items) (trees_of parts.value.optional.items) nullable

-- an expression
abbrev pub expr_of : ExprNode → Tree
expr_of (expr.Integer at word) = integer_literal at word
expr_of (expr.Text at strings) = string_literal at (trees_of strings.items)
expr_of (expr.Boolean at value) = boolean_literal at value
expr_of (expr.Null at) = null_literal at
expr_of (expr.This at) = this_expression at
expr_of (expr.Super at) = super_expression at
expr_of (expr.Identifier at word) = identifier at word
expr_of (expr.Parenthesis at inner) = parenthesis at inner
expr_of (expr.New at written name arguments) = new_expression at written name arguments
expr_of (expr.List at type_arguments elements) = list_literal at (part_of type_arguments) (trees_of elements.items)
expr_of (expr.SetOrMap at type_arguments entries) = set_or_map_literal at (part_of type_arguments) (trees_of entries.items)
expr_of (expr.Function at parameters body) = function_expression at parameters.value body.value
expr_of (expr.GenericIdentifier at name type_arguments) = generic_identifier at name type_arguments
expr_of (expr.Property at receiver null_aware name) = property_access at receiver null_aware name
expr_of (expr.Index at receiver null_aware bracket index) = index_expression at receiver null_aware bracket index
expr_of (expr.NullCheck at operand) = null_check at operand
expr_of (expr.Call at callee type_arguments arguments) = call at callee (part_of type_arguments) arguments
expr_of (expr.Unary at operator operand) = unary_expression at operator operand
expr_of (expr.Postfix at operator operand) = postfix_expression at operator operand
expr_of (expr.Binary at operator left right) = binary_expression at operator left right
expr_of (expr.TypeTest at operand negated written) = type_test at operand negated written
expr_of (expr.TypeCast at operand written) = type_cast at operand written
expr_of (expr.Conditional at condition then_value else_value) = conditional at condition then_value else_value
expr_of (expr.Assignment at operator target value) = assignment at operator target value
expr_of (expr.Throw at value) = throw_expression at value
expr_of (expr.Cascade at receiver null_aware section) = cascade at receiver null_aware section
expr_of (expr.CascadedName at name) = cascaded_name at name
expr_of (expr.CascadedIndex at bracket index) = cascaded_index at bracket index

-- one string of a string literal
abbrev pub string_literal_of : StringLiteralNode → Tree
string_literal_of (string_literal.Simple at kind word) = simple_string at kind word
string_literal_of (string_literal.Interpolated at elements) = interpolated_string at (trees_of elements.items)

-- a part of a string with interpolations
abbrev pub string_element_of : StringElementNode → Tree
string_element_of (string_element.Text at kind word) = string_text at kind word
string_element_of (string_element.Interpolation at value) = string_interpolation at value

-- what a function runs
abbrev pub body_of : BodyNode → Tree
body_of (body.Block at statements) = block at (trees_of statements.items)
body_of (body.Expression at value) = expression_body at value
body_of (body.Empty at) = empty_body at
body_of (body.Native at) = native_body at

-- a function with its name, in a library, a class or among statements
abbrev pub function_of : FunctionNode → Tree
function_of (function.Getter at result name body) = getter at (part_of result) name body
function_of (function.Setter at result name parameters body) = setter at (part_of result) name parameters body
function_of (function.Plain at result name type_parameters parameters body) = plain_function at (part_of result) name (trees_of type_parameters.items) parameters body

-- a statement
abbrev pub stmt_of : StmtNode → Tree
stmt_of (stmt.Block at statements) = block at (trees_of statements.items)
stmt_of (stmt.Variables at variables) = variable_statement at variables
stmt_of (stmt.Function at function) = function_statement at function
stmt_of (stmt.Expression at value) = expression_statement at (part_of value)
stmt_of (stmt.If at condition then_branch else_branch) = if_statement at condition then_branch (part_of else_branch)
stmt_of (stmt.While at condition body) = while_statement at condition body
stmt_of (stmt.Do at body condition) = do_statement at body condition
stmt_of (stmt.For at initializer condition updates body) = for_statement at (for_initializer_of initializer.value) (part_of condition) (trees_of updates.items) body
stmt_of (stmt.ForIn at is_final written name iterable body) = for_in_statement at is_final (part_of written) name iterable body
stmt_of (stmt.ForInAssignment at name iterable body) = for_in_assignment at name iterable body
stmt_of (stmt.Switch at value cases) = switch_statement at value (trees_of cases.items)
stmt_of (stmt.Try at parts) = try_statement at parts.value.body (trees_of parts.value.handlers.items) (part_of parts.value.finally_block)
stmt_of (stmt.Return at value) = return_statement at (part_of value)
stmt_of (stmt.Break at label) = break_statement at label
stmt_of (stmt.Continue at label) = continue_statement at label
stmt_of (stmt.Rethrow at) = rethrow_statement at
stmt_of (stmt.Labeled at label body) = labeled_statement at label body
stmt_of (stmt.Error at) = error_node at

-- a member of a class or a mixin
abbrev pub read_member_of : ReadMember → Tree
read_member_of (member.Constructor at metadata name parameters initializers body) = constructor_declaration at (trees_of metadata.items) name parameters (trees_of initializers.items) body
read_member_of (member.Factory at metadata name parameters body) = factory_declaration at (trees_of metadata.items) name parameters body
read_member_of (member.Method at metadata is_static function) = method_declaration at (trees_of metadata.items) is_static function
read_member_of (member.Fields at metadata is_static variables) = field_declaration at (trees_of metadata.items) is_static variables
read_member_of (member.Operator at metadata result name parameters body) = operator_declaration at (trees_of metadata.items) (part_of result) name parameters body

-- a member, or what derives none
abbrev pub member_of : MemberNode → Tree
member_of (member_node.Read form) = read_member_of form.value
member_of (member_node.Error at) = error_node at

-- an entry of a constructor's initializer list
abbrev pub initializer_of : InitializerNode → Tree
initializer_of (initializer.Field at name value) = field_initializer at name value
initializer_of (initializer.Super at name arguments) = super_initializer at name arguments
initializer_of (initializer.Redirection at name arguments) = redirection at name arguments

-- a directive or a declaration of a unit
abbrev pub read_item_of : ReadItem → Tree
read_item_of (item.Class at metadata is_abstract name type_parameters superclass mixins interfaces members) = class_declaration at (trees_of metadata.items) is_abstract name (trees_of type_parameters.items) (part_of superclass) (trees_of mixins.items) (trees_of interfaces.items) (trees_of members.items)
read_item_of (item.Mixin at metadata name type_parameters constraints interfaces members) = mixin_declaration at (trees_of metadata.items) name (trees_of type_parameters.items) (trees_of constraints.items) (trees_of interfaces.items) (trees_of members.items)
read_item_of (item.TypeAlias at metadata name written) = type_alias at (trees_of metadata.items) name written
read_item_of (item.Function at metadata function) = function_declaration at (trees_of metadata.items) function
read_item_of (item.Variables at metadata variables) = variable_declaration at (trees_of metadata.items) variables
read_item_of (item.Library at names) = library_directive at (trees_of names.items)
read_item_of (item.Import at uri prefix combinators) = import_directive at uri (part_of prefix) (trees_of combinators.items)
read_item_of (item.Export at uri combinators) = export_directive at uri (trees_of combinators.items)
read_item_of (item.Part at uri) = part_directive at uri
read_item_of (item.PartOf at uri) = part_of_directive at uri
read_item_of (item.PartOfLibrary at names) = part_of_library_directive at (trees_of names.items)

-- an item, or what derives none
abbrev pub item_of : ItemNode → Tree
item_of (item_node.Read form) = read_item_of form.value
item_of (item_node.Error at) = error_node at

-- which names an import or an export brings
abbrev pub combinator_of : CombinatorNode → Tree
combinator_of (combinator.Show at names) = show_combinator at (trees_of names.items)
combinator_of (combinator.Hide at names) = hide_combinator at (trees_of names.items)
