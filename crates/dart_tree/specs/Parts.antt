-- What a node of one form is as a tree.
use Rattle.dart_tree.specs.Tree.{Tree, trees_of, part_of, type_argument_list, type_parameter, parameter_type, map_entry, argument_list, argument, parameter_list, parameter, variable_list, variable, block, switch_case, catch_clause, unit, annotation, listed_name}
use Rattle.dart_tree.specs.declared.types.TypeArgumentsNode.{TypeArgumentsNode}
use Rattle.dart_tree.specs.declared.types.TypeParameter.TheInside as type_parameter_inside
use Rattle.dart_tree.specs.declared.types.ParameterType.TheInside as parameter_type_inside
use Rattle.dart_tree.specs.declared.expressions.MapEntry.TheInside as map_entry_inside
use Rattle.dart_tree.specs.declared.expressions.ArgumentListNode.{ArgumentListNode}
use Rattle.dart_tree.specs.declared.expressions.Argument.TheInside as argument_inside
use Rattle.dart_tree.specs.declared.functions.ParameterList.TheInside as parameter_list_inside
use Rattle.dart_tree.specs.declared.functions.Parameter.TheInside as parameter_inside
use Rattle.dart_tree.specs.declared.functions.VariableList.TheInside as variable_list_inside
use Rattle.dart_tree.specs.declared.functions.Variable.TheInside as variable_inside
use Rattle.dart_tree.specs.declared.statements.Block.TheInside as block_inside
use Rattle.dart_tree.specs.declared.statements.SwitchCase.TheInside as switch_case_inside
use Rattle.dart_tree.specs.declared.statements.CatchClause.TheInside as catch_clause_inside
use Rattle.dart_tree.specs.declared.unit.UnitTree.TheInside as unit_tree_inside
use Rattle.dart_tree.specs.declared.names.Annotation.TheInside as annotation_inside
use Rattle.dart_tree.specs.declared.names.ListedName.TheInside as listed_name_inside

-- type arguments with their brackets
abbrev pub type_arguments_of : TypeArgumentsNode → Tree
type_arguments_of a = type_argument_list a.at (trees_of a.types.items)

-- a type parameter
abbrev pub type_parameter_of : type_parameter_inside.Inside → Tree
type_parameter_of a = type_parameter a.at a.name (part_of a.bound)

-- a required parameter of a function type. Its name declares nothing
abbrev pub parameter_type_of : parameter_type_inside.Inside → Tree
parameter_type_of a = parameter_type a.at a.written a.name

-- an entry of a map or set literal
abbrev pub map_entry_of : map_entry_inside.Inside → Tree
map_entry_of a = map_entry a.at a.key (part_of a.value)

-- arguments with their parentheses
abbrev pub argument_list_of : ArgumentListNode → Tree
argument_list_of a = argument_list a.at (trees_of a.arguments.items)

-- an argument
abbrev pub argument_of : argument_inside.Inside → Tree
argument_of a = argument a.at a.name a.value

-- parameters with their parentheses
abbrev pub parameter_list_of : parameter_list_inside.Inside → Tree
parameter_list_of a = parameter_list a.at (trees_of a.parameters.items)

-- a parameter of a function, or an optional one of a function type
abbrev pub parameter_of : parameter_inside.Inside → Tree
parameter_of a = parameter a.at (trees_of a.metadata.items) a.kind a.is_required a.is_final (part_of a.written) a.is_field a.name (part_of a.default_value)

-- variables that are declared together, without the semicolon
abbrev pub variable_list_of : variable_list_inside.Inside → Tree
variable_list_of a = variable_list a.at a.is_final (part_of a.written) (trees_of a.variables.items)

-- a variable of a declaration
abbrev pub variable_of : variable_inside.Inside → Tree
variable_of a = variable a.at a.name (part_of a.initializer)

-- statements between braces, as the body of a `try`, a `catch` or a `finally`
abbrev pub block_of : block_inside.Inside → Tree
block_of a = block a.at (trees_of a.statements.items)

-- a case of a switch, with all its labels
abbrev pub switch_case_of : switch_case_inside.Inside → Tree
switch_case_of a = switch_case a.at (trees_of a.labels.items) a.is_default (trees_of a.statements.items)

-- what a `try` does with some of what is thrown
abbrev pub catch_clause_of : catch_clause_inside.Inside → Tree
catch_clause_of a = catch_clause a.at (part_of a.written) (part_of a.exception) (part_of a.stack_trace) a.body

-- the tree of a whole text
abbrev pub unit_tree_of : unit_tree_inside.Inside → Tree
unit_tree_of a = unit a.at (trees_of a.items.items)

-- `@name` before a declaration, a member or a parameter
abbrev pub annotation_of : annotation_inside.Inside → Tree
annotation_of a = annotation a.at a.name

-- a name in a list of names, or one that may be left out
abbrev pub listed_name_of : listed_name_inside.Inside → Tree
listed_name_of a = listed_name a.at a.word
