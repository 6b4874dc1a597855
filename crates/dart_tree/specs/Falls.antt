-- Each part of a tree has fewer nodes than the tree.
use Rattle.std.specs.Prelude.{◌+◌, ◌≤◌, max, List, [], ◌∷◌, Option, Some, None}
use Rattle.std.specs.Global.{Box}
use Rattle.std.proofs.Common.{arith}
use denote.Param.Weighed.{most}
use Rattle.dart_tree.specs.Tree.{Tree, trees_of}
use Rattle.dart_tree.specs.Numbers.{nodes_in, nodes_in_all, nodes_in_part}
use Rattle.dart_tree.specs.View.{written_type_of, expr_of, string_literal_of, string_element_of, body_of, function_of, for_initializer_of, stmt_of}
use Rattle.dart_tree.specs.Parts.{type_arguments_of, type_parameter_of, parameter_type_of, map_entry_of, argument_list_of, argument_of, parameter_list_of, parameter_of, variable_list_of, variable_of, block_of, switch_case_of, catch_clause_of}
use Rattle.dart_tree.specs.declared.types.WrittenTypeNode.{WrittenTypeNode}
use Rattle.dart_tree.specs.declared.types.WrittenTypeNode.TheVariants as written_type
use Rattle.dart_tree.specs.declared.expressions.ExprNode.{ExprNode}
use Rattle.dart_tree.specs.declared.expressions.ExprNode.TheVariants as expr
use Rattle.dart_tree.specs.declared.expressions.StringLiteralNode.{StringLiteralNode}
use Rattle.dart_tree.specs.declared.expressions.StringLiteralNode.TheVariants as string_literal
use Rattle.dart_tree.specs.declared.expressions.StringElementNode.{StringElementNode}
use Rattle.dart_tree.specs.declared.expressions.StringElementNode.TheVariants as string_element
use Rattle.dart_tree.specs.declared.functions.BodyNode.{BodyNode}
use Rattle.dart_tree.specs.declared.functions.BodyNode.TheVariants as body
use Rattle.dart_tree.specs.declared.functions.FunctionNode.{FunctionNode}
use Rattle.dart_tree.specs.declared.functions.FunctionNode.TheVariants as function
use Rattle.dart_tree.specs.declared.statements.StmtNode.{StmtNode}
use Rattle.dart_tree.specs.declared.statements.StmtNode.TheVariants as stmt
use Rattle.dart_tree.specs.declared.statements.ForInitializer.{ForInitializer}
use Rattle.dart_tree.specs.declared.statements.ForInitializer.TheVariants as for_initializer
use Rattle.dart_tree.specs.declared.statements.TryParts.{TryParts}
use Rattle.dart_tree.specs.declared.places.Place.{Place}
use Rattle.dart_tree.specs.declared.types.TypeArgumentsNode.{TypeArgumentsNode}
use Rattle.dart_tree.specs.declared.types.TypeParameter.TheInside as type_parameter_inside
use Rattle.dart_tree.specs.declared.types.ParameterType.TheInside as parameter_type_inside
use Rattle.dart_tree.specs.declared.expressions.MapEntry.TheInside as map_entry_inside
use Rattle.dart_tree.specs.declared.expressions.ArgumentListNode.{ArgumentListNode}
use Rattle.dart_tree.specs.declared.expressions.Argument.TheInside as argument_inside
use Rattle.dart_tree.specs.declared.functions.ParameterList.TheInside as parameter_list_inside
use Rattle.dart_tree.specs.declared.functions.Parameter.TheInside as parameter_inside
use Rattle.dart_tree.specs.declared.functions.VariableList.TheInside as variable_list_inside
use Rattle.dart_tree.specs.declared.functions.Variable.TheInside as variable_inside
use Rattle.dart_tree.specs.declared.statements.Block.TheInside as block_inside
use Rattle.dart_tree.specs.declared.statements.SwitchCase.TheInside as switch_case_inside
use Rattle.dart_tree.specs.declared.statements.CatchClause.TheInside as catch_clause_inside
use Rattle.dart_tree.specs.declared.expressions.Argument.TheDeep.{deep-Argument, deep-ArgumentListNode, deep-Block, deep-BodyNode, deep-CatchClause, deep-ExprNode, deep-ForInitializer, deep-FunctionNode, deep-MapEntry, deep-Parameter, deep-ParameterList, deep-ParameterType, deep-StmtNode, deep-StringElementNode, deep-StringLiteralNode, deep-SwitchCase, deep-TypeArgumentsNode, deep-TypeParameter, deep-Variable, deep-VariableList, deep-WrittenTypeNode}

-- a list is as large as its largest tree
pub most_le-nodes_in_all : (ts : List Tree) → most (λ t. nodes_in t + 1) ts ≤ nodes_in_all (trees_of ts) + 1
most_le-nodes_in_all [] = omega arith
most_le-nodes_in_all (t ∷ ts) = omega (arith, most_le-nodes_in_all ts)

-- of a type as it is written
pub written_type_falls : (n : WrittenTypeNode) → max (deep-WrittenTypeNode n) 0 ≤ nodes_in (written_type_of n)
written_type_falls (written_type.Void at) = omega arith
written_type_falls (written_type.Named at prefix name None nullable) = omega arith
written_type_falls (written_type.Named at prefix name (Some arguments) nullable) = omega arith
written_type_falls (written_type.Function at None parts nullable) = omega (arith, most_le-nodes_in_all parts.value.type_parameters.items, most_le-nodes_in_all parts.value.parameters.items, most_le-nodes_in_all parts.value.optional.items)
written_type_falls (written_type.Function at (Some result) parts nullable) = omega (arith, most_le-nodes_in_all parts.value.type_parameters.items, most_le-nodes_in_all parts.value.parameters.items, most_le-nodes_in_all parts.value.optional.items)

-- of an expression
pub expr_falls : (n : ExprNode) → max (deep-ExprNode n) 0 ≤ nodes_in (expr_of n)
expr_falls (expr.Integer at word) = omega arith
expr_falls (expr.Text at strings) = omega (arith, most_le-nodes_in_all strings.items)
expr_falls (expr.Boolean at value) = omega arith
expr_falls (expr.Null at) = omega arith
expr_falls (expr.This at) = omega arith
expr_falls (expr.Super at) = omega arith
expr_falls (expr.Identifier at word) = omega arith
expr_falls (expr.Parenthesis at inner) = omega arith
expr_falls (expr.New at written name arguments) = omega arith
expr_falls (expr.List at None elements) = omega (arith, most_le-nodes_in_all elements.items)
expr_falls (expr.List at (Some type_arguments) elements) = omega (arith, most_le-nodes_in_all elements.items)
expr_falls (expr.SetOrMap at None entries) = omega (arith, most_le-nodes_in_all entries.items)
expr_falls (expr.SetOrMap at (Some type_arguments) entries) = omega (arith, most_le-nodes_in_all entries.items)
expr_falls (expr.Function at parameters body) = omega arith
expr_falls (expr.GenericIdentifier at name type_arguments) = omega arith
expr_falls (expr.Property at receiver null_aware name) = omega arith
expr_falls (expr.Index at receiver null_aware bracket index) = omega arith
expr_falls (expr.NullCheck at operand) = omega arith
expr_falls (expr.Call at callee None arguments) = omega arith
expr_falls (expr.Call at callee (Some type_arguments) arguments) = omega arith
expr_falls (expr.Unary at operator operand) = omega arith
expr_falls (expr.Postfix at operator operand) = omega arith
expr_falls (expr.Binary at operator left right) = omega arith
expr_falls (expr.TypeTest at operand negated written) = omega arith
expr_falls (expr.TypeCast at operand written) = omega arith
expr_falls (expr.Conditional at condition then_value else_value) = omega arith
expr_falls (expr.Assignment at operator target value) = omega arith
expr_falls (expr.Throw at value) = omega arith
expr_falls (expr.Cascade at receiver null_aware section) = omega arith
expr_falls (expr.CascadedName at name) = omega arith
expr_falls (expr.CascadedIndex at bracket index) = omega arith

-- of one string of a string literal
pub string_literal_falls : (n : StringLiteralNode) → max (deep-StringLiteralNode n) 0 ≤ nodes_in (string_literal_of n)
string_literal_falls (string_literal.Simple at kind word) = omega arith
string_literal_falls (string_literal.Interpolated at elements) = omega (arith, most_le-nodes_in_all elements.items)

-- of a part of a string with interpolations
pub string_element_falls : (n : StringElementNode) → max (deep-StringElementNode n) 0 ≤ nodes_in (string_element_of n)
string_element_falls (string_element.Text at kind word) = omega arith
string_element_falls (string_element.Interpolation at value) = omega arith

-- of what a function runs
pub body_falls : (n : BodyNode) → max (deep-BodyNode n) 0 ≤ nodes_in (body_of n)
body_falls (body.Block at statements) = omega (arith, most_le-nodes_in_all statements.items)
body_falls (body.Expression at value) = omega arith
body_falls (body.Empty at) = omega arith
body_falls (body.Native at) = omega arith

-- of a function with its name, in a library, a class or among statements
pub function_falls : (n : FunctionNode) → max (deep-FunctionNode n) 0 ≤ nodes_in (function_of n)
function_falls (function.Getter at None name body) = omega arith
function_falls (function.Getter at (Some result) name body) = omega arith
function_falls (function.Setter at None name parameters body) = omega arith
function_falls (function.Setter at (Some result) name parameters body) = omega arith
function_falls (function.Plain at None name type_parameters parameters body) = omega (arith, most_le-nodes_in_all type_parameters.items)
function_falls (function.Plain at (Some result) name type_parameters parameters body) = omega (arith, most_le-nodes_in_all type_parameters.items)

-- of what a `for` begins with
for_initializer_falls : (i : ForInitializer) → deep-ForInitializer i ≤ nodes_in_part (for_initializer_of i) + 1
for_initializer_falls for_initializer.Absent = omega arith
for_initializer_falls (for_initializer.Variables variables) = omega arith
for_initializer_falls (for_initializer.Expression value) = omega arith

-- of a `try`
try_at : (at : Place) (parts : Box TryParts) (finally_block : Option Tree) → max (deep-StmtNode (stmt.Try at (record parts { value = record parts.value { finally_block = finally_block } }))) 0 ≤ nodes_in (stmt_of (stmt.Try at (record parts { value = record parts.value { finally_block = finally_block } })))
try_at at parts None = omega (arith, most_le-nodes_in_all parts.value.handlers.items)
try_at at parts (Some finally_block) = omega (arith, most_le-nodes_in_all parts.value.handlers.items)

-- of a statement
pub stmt_falls : (n : StmtNode) → max (deep-StmtNode n) 0 ≤ nodes_in (stmt_of n)
stmt_falls (stmt.Block at statements) = omega (arith, most_le-nodes_in_all statements.items)
stmt_falls (stmt.Variables at variables) = omega arith
stmt_falls (stmt.Function at function) = omega arith
stmt_falls (stmt.Expression at None) = omega arith
stmt_falls (stmt.Expression at (Some value)) = omega arith
stmt_falls (stmt.If at condition then_branch None) = omega arith
stmt_falls (stmt.If at condition then_branch (Some else_branch)) = omega arith
stmt_falls (stmt.While at condition body) = omega arith
stmt_falls (stmt.Do at body condition) = omega arith
stmt_falls (stmt.For at initializer None updates body) = omega (arith, for_initializer_falls initializer.value, most_le-nodes_in_all updates.items)
stmt_falls (stmt.For at initializer (Some condition) updates body) = omega (arith, for_initializer_falls initializer.value, most_le-nodes_in_all updates.items)
stmt_falls (stmt.ForIn at is_final None name iterable body) = omega arith
stmt_falls (stmt.ForIn at is_final (Some written) name iterable body) = omega arith
stmt_falls (stmt.ForInAssignment at name iterable body) = omega arith
stmt_falls (stmt.Switch at value cases) = omega (arith, most_le-nodes_in_all cases.items)
stmt_falls (stmt.Try at parts) = try_at at parts parts.value.finally_block
stmt_falls (stmt.Return at None) = omega arith
stmt_falls (stmt.Return at (Some value)) = omega arith
stmt_falls (stmt.Break at label) = omega arith
stmt_falls (stmt.Continue at label) = omega arith
stmt_falls (stmt.Rethrow at) = omega arith
stmt_falls (stmt.Labeled at label body) = omega arith
stmt_falls (stmt.Error at) = omega arith

-- of type arguments with their brackets
pub type_arguments_falls : (a : TypeArgumentsNode) → max (deep-TypeArgumentsNode a) 0 ≤ nodes_in (type_arguments_of a)
type_arguments_falls a = omega (arith, most_le-nodes_in_all a.types.items)

-- of a type parameter
type_parameter_at : (a : type_parameter_inside.Inside) (bound : Option Tree) → deep-TypeParameter (record a { bound = bound }) ≤ nodes_in (type_parameter_of (record a { bound = bound }))
type_parameter_at a None = omega arith
type_parameter_at a (Some bound) = omega arith

pub type_parameter_falls : (a : type_parameter_inside.Inside) → deep-TypeParameter a ≤ nodes_in (type_parameter_of a)
type_parameter_falls a = type_parameter_at a a.bound

-- of a required parameter of a function type. Its name declares nothing
pub parameter_type_falls : (a : parameter_type_inside.Inside) → deep-ParameterType a ≤ nodes_in (parameter_type_of a)
parameter_type_falls a = omega arith

-- of an entry of a map or set literal
map_entry_at : (a : map_entry_inside.Inside) (value : Option Tree) → deep-MapEntry (record a { value = value }) ≤ nodes_in (map_entry_of (record a { value = value }))
map_entry_at a None = omega arith
map_entry_at a (Some value) = omega arith

pub map_entry_falls : (a : map_entry_inside.Inside) → deep-MapEntry a ≤ nodes_in (map_entry_of a)
map_entry_falls a = map_entry_at a a.value

-- of arguments with their parentheses
pub argument_list_falls : (a : ArgumentListNode) → max (deep-ArgumentListNode a) 0 ≤ nodes_in (argument_list_of a)
argument_list_falls a = omega (arith, most_le-nodes_in_all a.arguments.items)

-- of an argument
pub argument_falls : (a : argument_inside.Inside) → deep-Argument a ≤ nodes_in (argument_of a)
argument_falls a = omega arith

-- of parameters with their parentheses
pub parameter_list_falls : (a : parameter_list_inside.Inside) → deep-ParameterList a ≤ nodes_in (parameter_list_of a)
parameter_list_falls a = omega (arith, most_le-nodes_in_all a.parameters.items)

-- of a parameter of a function, or an optional one of a function type
parameter_at : (a : parameter_inside.Inside) (written : Option Tree) (default_value : Option Tree) → deep-Parameter (record a { written = written; default_value = default_value }) ≤ nodes_in (parameter_of (record a { written = written; default_value = default_value }))
parameter_at a None None = omega arith
parameter_at a None (Some default_value) = omega arith
parameter_at a (Some written) None = omega arith
parameter_at a (Some written) (Some default_value) = omega arith

pub parameter_falls : (a : parameter_inside.Inside) → deep-Parameter a ≤ nodes_in (parameter_of a)
parameter_falls a = parameter_at a a.written a.default_value

-- of variables that are declared together, without the semicolon
variable_list_at : (a : variable_list_inside.Inside) (written : Option Tree) → deep-VariableList (record a { written = written }) ≤ nodes_in (variable_list_of (record a { written = written }))
variable_list_at a None = omega (arith, most_le-nodes_in_all a.variables.items)
variable_list_at a (Some written) = omega (arith, most_le-nodes_in_all a.variables.items)

pub variable_list_falls : (a : variable_list_inside.Inside) → deep-VariableList a ≤ nodes_in (variable_list_of a)
variable_list_falls a = variable_list_at a a.written

-- of a variable of a declaration
variable_at : (a : variable_inside.Inside) (initializer : Option Tree) → deep-Variable (record a { initializer = initializer }) ≤ nodes_in (variable_of (record a { initializer = initializer }))
variable_at a None = omega arith
variable_at a (Some initializer) = omega arith

pub variable_falls : (a : variable_inside.Inside) → deep-Variable a ≤ nodes_in (variable_of a)
variable_falls a = variable_at a a.initializer

-- of statements between braces, as the body of a `try`, a `catch` or a `finally`
pub block_falls : (a : block_inside.Inside) → deep-Block a ≤ nodes_in (block_of a)
block_falls a = omega (arith, most_le-nodes_in_all a.statements.items)

-- of a case of a switch, with all its labels
pub switch_case_falls : (a : switch_case_inside.Inside) → deep-SwitchCase a ≤ nodes_in (switch_case_of a)
switch_case_falls a = omega (arith, most_le-nodes_in_all a.labels.items, most_le-nodes_in_all a.statements.items)

-- of what a `try` does with some of what is thrown
catch_clause_at : (a : catch_clause_inside.Inside) (written : Option Tree) → deep-CatchClause (record a { written = written }) ≤ nodes_in (catch_clause_of (record a { written = written }))
catch_clause_at a None = omega arith
catch_clause_at a (Some written) = omega arith

pub catch_clause_falls : (a : catch_clause_inside.Inside) → deep-CatchClause a ≤ nodes_in (catch_clause_of a)
catch_clause_falls a = catch_clause_at a a.written
