use Rattle.std.specs.Prelude.{◌+◌, ◌*◌}
use Rattle.dart_tree.specs.Tree.{trees_of, part_of}
use Rattle.dart_tree.specs.View.{for_initializer_of}
use Rattle.dart_tree.specs.Numbers.{nodes_in, nodes_in_all, nodes_in_part}
use Rattle.error_nodes.proofs.Sequences.{AreAddedUpTo}
use Rattle.error_nodes.proofs.+parts.Given as goal

abbrev pub decreases-types::add_from_written_type : goal.decreases-types::add_from_written_type
decreases-types::add_from_written_type l = 2 * nodes_in l.written_type.now

abbrev pub decreases-types::add_from_type_arguments : goal.decreases-types::add_from_type_arguments
decreases-types::add_from_type_arguments l = 2 * nodes_in l.type_arguments.now

abbrev pub decreases-types::add_from_type_parameter : goal.decreases-types::add_from_type_parameter
decreases-types::add_from_type_parameter l = 2 * nodes_in l.type_parameter.now

abbrev pub decreases-types::add_from_parameter_type : goal.decreases-types::add_from_parameter_type
decreases-types::add_from_parameter_type l = 2 * nodes_in l.parameter_type.now

abbrev pub decreases-expressions::add_from_expr : goal.decreases-expressions::add_from_expr
decreases-expressions::add_from_expr l = 2 * nodes_in l.expr.now

abbrev pub decreases-expressions::add_from_string : goal.decreases-expressions::add_from_string
decreases-expressions::add_from_string l = 2 * nodes_in l.string.now

abbrev pub decreases-expressions::add_from_string_element : goal.decreases-expressions::add_from_string_element
decreases-expressions::add_from_string_element l = 2 * nodes_in l.string_element.now

abbrev pub decreases-expressions::add_from_entry : goal.decreases-expressions::add_from_entry
decreases-expressions::add_from_entry l = 2 * nodes_in l.entry.now

abbrev pub decreases-expressions::add_from_argument_list : goal.decreases-expressions::add_from_argument_list
decreases-expressions::add_from_argument_list l = 2 * nodes_in l.argument_list.now

abbrev pub decreases-expressions::add_from_argument : goal.decreases-expressions::add_from_argument
decreases-expressions::add_from_argument l = 2 * nodes_in l.argument.now

abbrev pub decreases-functions::add_from_parameter_list : goal.decreases-functions::add_from_parameter_list
decreases-functions::add_from_parameter_list l = 2 * nodes_in l.parameter_list.now

abbrev pub decreases-functions::add_from_parameter : goal.decreases-functions::add_from_parameter
decreases-functions::add_from_parameter l = 2 * nodes_in l.parameter.now

abbrev pub decreases-functions::add_from_body : goal.decreases-functions::add_from_body
decreases-functions::add_from_body l = 2 * nodes_in l.body.now

abbrev pub decreases-functions::add_from_function : goal.decreases-functions::add_from_function
decreases-functions::add_from_function l = 2 * nodes_in l.function.now

abbrev pub decreases-functions::add_from_variable_list : goal.decreases-functions::add_from_variable_list
decreases-functions::add_from_variable_list l = 2 * nodes_in l.variable_list.now

abbrev pub decreases-functions::add_from_variable : goal.decreases-functions::add_from_variable
decreases-functions::add_from_variable l = 2 * nodes_in l.variable.now

abbrev pub decreases-statements::add_from_stmt : goal.decreases-statements::add_from_stmt
decreases-statements::add_from_stmt l = 2 * nodes_in l.stmt.now

abbrev pub decreases-statements::add_from_block : goal.decreases-statements::add_from_block
decreases-statements::add_from_block l = 2 * nodes_in l.block.now

abbrev pub decreases-statements::add_from_case : goal.decreases-statements::add_from_case
decreases-statements::add_from_case l = 2 * nodes_in l.case.now

abbrev pub decreases-statements::add_from_handler : goal.decreases-statements::add_from_handler
decreases-statements::add_from_handler l = 2 * nodes_in l.handler.now

abbrev pub decreases-types::add_from_type_parameters : goal.decreases-types::add_from_type_parameters
decreases-types::add_from_type_parameters l = 2 * nodes_in_all (trees_of l.type_parameters.now) + 1

abbrev pub decreases-types::add_from_parameter_types : goal.decreases-types::add_from_parameter_types
decreases-types::add_from_parameter_types l = 2 * nodes_in_all (trees_of l.parameter_types.now) + 1

abbrev pub decreases-functions::add_from_parameters : goal.decreases-functions::add_from_parameters
decreases-functions::add_from_parameters l = 2 * nodes_in_all (trees_of l.parameters.now) + 1

abbrev pub decreases-types::add_from_written_types : goal.decreases-types::add_from_written_types
decreases-types::add_from_written_types l = 2 * nodes_in_all (trees_of l.written_types.now) + 1

abbrev pub decreases-expressions::add_from_strings : goal.decreases-expressions::add_from_strings
decreases-expressions::add_from_strings l = 2 * nodes_in_all (trees_of l.strings.now) + 1

abbrev pub decreases-expressions::add_from_exprs : goal.decreases-expressions::add_from_exprs
decreases-expressions::add_from_exprs l = 2 * nodes_in_all (trees_of l.exprs.now) + 1

abbrev pub decreases-expressions::add_from_entries : goal.decreases-expressions::add_from_entries
decreases-expressions::add_from_entries l = 2 * nodes_in_all (trees_of l.entries.now) + 1

abbrev pub decreases-expressions::add_from_string_elements : goal.decreases-expressions::add_from_string_elements
decreases-expressions::add_from_string_elements l = 2 * nodes_in_all (trees_of l.string_elements.now) + 1

abbrev pub decreases-expressions::add_from_arguments : goal.decreases-expressions::add_from_arguments
decreases-expressions::add_from_arguments l = 2 * nodes_in_all (trees_of l.arguments.now) + 1

abbrev pub decreases-statements::add_from_stmts : goal.decreases-statements::add_from_stmts
decreases-statements::add_from_stmts l = 2 * nodes_in_all (trees_of l.stmts.now) + 1

abbrev pub decreases-functions::add_from_variables : goal.decreases-functions::add_from_variables
decreases-functions::add_from_variables l = 2 * nodes_in_all (trees_of l.variables.now) + 1

abbrev pub decreases-statements::add_from_cases : goal.decreases-statements::add_from_cases
decreases-statements::add_from_cases l = 2 * nodes_in_all (trees_of l.cases.now) + 1

abbrev pub decreases-statements::add_from_handlers : goal.decreases-statements::add_from_handlers
decreases-statements::add_from_handlers l = 2 * nodes_in_all (trees_of l.handlers.now) + 1

abbrev pub decreases-types::add_from_optional_type_arguments : goal.decreases-types::add_from_optional_type_arguments
decreases-types::add_from_optional_type_arguments l = 2 * nodes_in_part (part_of l.type_arguments.now) + 1

abbrev pub decreases-types::add_from_optional_written_type : goal.decreases-types::add_from_optional_written_type
decreases-types::add_from_optional_written_type l = 2 * nodes_in_part (part_of l.written_type.now) + 1

abbrev pub decreases-expressions::add_from_optional_expr : goal.decreases-expressions::add_from_optional_expr
decreases-expressions::add_from_optional_expr l = 2 * nodes_in_part (part_of l.expr.now) + 1

abbrev pub decreases-statements::add_from_optional_stmt : goal.decreases-statements::add_from_optional_stmt
decreases-statements::add_from_optional_stmt l = 2 * nodes_in_part (part_of l.stmt.now) + 1

abbrev pub decreases-statements::add_from_optional_block : goal.decreases-statements::add_from_optional_block
decreases-statements::add_from_optional_block l = 2 * nodes_in_part (part_of l.block.now) + 1

abbrev pub decreases-statements::add_from_for_initializer : goal.decreases-statements::add_from_for_initializer
decreases-statements::add_from_for_initializer l = 2 * nodes_in_part (for_initializer_of l.initializer.now) + 1

abbrev pub invariant-types::add_from_type_parameters-loop-item : goal.invariant-types::add_from_type_parameters-loop-item
invariant-types::add_from_type_parameters-loop-item l = AreAddedUpTo l.item-index l.type_parameters l.initial.errors.items l.errors.items

abbrev pub invariant-types::add_from_parameter_types-loop-item : goal.invariant-types::add_from_parameter_types-loop-item
invariant-types::add_from_parameter_types-loop-item l = AreAddedUpTo l.item-index l.parameter_types l.initial.errors.items l.errors.items

abbrev pub invariant-functions::add_from_parameters-loop-item : goal.invariant-functions::add_from_parameters-loop-item
invariant-functions::add_from_parameters-loop-item l = AreAddedUpTo l.item-index l.parameters l.initial.errors.items l.errors.items

abbrev pub invariant-types::add_from_written_types-loop-item : goal.invariant-types::add_from_written_types-loop-item
invariant-types::add_from_written_types-loop-item l = AreAddedUpTo l.item-index l.written_types l.initial.errors.items l.errors.items

abbrev pub invariant-expressions::add_from_strings-loop-item : goal.invariant-expressions::add_from_strings-loop-item
invariant-expressions::add_from_strings-loop-item l = AreAddedUpTo l.item-index l.strings l.initial.errors.items l.errors.items

abbrev pub invariant-expressions::add_from_exprs-loop-item : goal.invariant-expressions::add_from_exprs-loop-item
invariant-expressions::add_from_exprs-loop-item l = AreAddedUpTo l.item-index l.exprs l.initial.errors.items l.errors.items

abbrev pub invariant-expressions::add_from_entries-loop-item : goal.invariant-expressions::add_from_entries-loop-item
invariant-expressions::add_from_entries-loop-item l = AreAddedUpTo l.item-index l.entries l.initial.errors.items l.errors.items

abbrev pub invariant-expressions::add_from_string_elements-loop-item : goal.invariant-expressions::add_from_string_elements-loop-item
invariant-expressions::add_from_string_elements-loop-item l = AreAddedUpTo l.item-index l.string_elements l.initial.errors.items l.errors.items

abbrev pub invariant-expressions::add_from_arguments-loop-item : goal.invariant-expressions::add_from_arguments-loop-item
invariant-expressions::add_from_arguments-loop-item l = AreAddedUpTo l.item-index l.arguments l.initial.errors.items l.errors.items

abbrev pub invariant-statements::add_from_stmts-loop-item : goal.invariant-statements::add_from_stmts-loop-item
invariant-statements::add_from_stmts-loop-item l = AreAddedUpTo l.item-index l.stmts l.initial.errors.items l.errors.items

abbrev pub invariant-functions::add_from_variables-loop-item : goal.invariant-functions::add_from_variables-loop-item
invariant-functions::add_from_variables-loop-item l = AreAddedUpTo l.item-index l.variables l.initial.errors.items l.errors.items

abbrev pub invariant-statements::add_from_cases-loop-item : goal.invariant-statements::add_from_cases-loop-item
invariant-statements::add_from_cases-loop-item l = AreAddedUpTo l.item-index l.cases l.initial.errors.items l.errors.items

abbrev pub invariant-statements::add_from_handlers-loop-item : goal.invariant-statements::add_from_handlers-loop-item
invariant-statements::add_from_handlers-loop-item l = AreAddedUpTo l.item-index l.handlers l.initial.errors.items l.errors.items
