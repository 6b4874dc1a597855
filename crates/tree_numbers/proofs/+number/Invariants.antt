use Rattle.std.specs.Prelude.{◌+◌, ◌*◌}
use Rattle.dart_tree.specs.Tree.{trees_of, part_of}
use Rattle.dart_tree.specs.Numbers.{nodes_in, nodes_in_all, nodes_in_part}
use Rattle.dart_tree.specs.View.{for_initializer_of}
use Rattle.tree_numbers.proofs.Sequences.{IsNumberedUpTo}
use Rattle.tree_numbers.proofs.+number.Given as goal

abbrev pub decreases-numbering_parts::number_written_type : goal.decreases-numbering_parts::number_written_type
decreases-numbering_parts::number_written_type l = 2 * nodes_in l.written_type.now

abbrev pub decreases-numbering_parts::number_type_arguments : goal.decreases-numbering_parts::number_type_arguments
decreases-numbering_parts::number_type_arguments l = 2 * nodes_in l.type_arguments.now

abbrev pub decreases-numbering_parts::number_type_parameter : goal.decreases-numbering_parts::number_type_parameter
decreases-numbering_parts::number_type_parameter l = 2 * nodes_in l.type_parameter.now

abbrev pub decreases-numbering_parts::number_parameter_type : goal.decreases-numbering_parts::number_parameter_type
decreases-numbering_parts::number_parameter_type l = 2 * nodes_in l.parameter_type.now

abbrev pub decreases-numbering_parts::number_expr : goal.decreases-numbering_parts::number_expr
decreases-numbering_parts::number_expr l = 2 * nodes_in l.expr.now

abbrev pub decreases-numbering_parts::number_string : goal.decreases-numbering_parts::number_string
decreases-numbering_parts::number_string l = 2 * nodes_in l.string.now

abbrev pub decreases-numbering_parts::number_string_element : goal.decreases-numbering_parts::number_string_element
decreases-numbering_parts::number_string_element l = 2 * nodes_in l.string_element.now

abbrev pub decreases-numbering_parts::number_entry : goal.decreases-numbering_parts::number_entry
decreases-numbering_parts::number_entry l = 2 * nodes_in l.entry.now

abbrev pub decreases-numbering_parts::number_argument_list : goal.decreases-numbering_parts::number_argument_list
decreases-numbering_parts::number_argument_list l = 2 * nodes_in l.argument_list.now

abbrev pub decreases-numbering_parts::number_argument : goal.decreases-numbering_parts::number_argument
decreases-numbering_parts::number_argument l = 2 * nodes_in l.argument.now

abbrev pub decreases-numbering_parts::number_parameter_list : goal.decreases-numbering_parts::number_parameter_list
decreases-numbering_parts::number_parameter_list l = 2 * nodes_in l.parameter_list.now

abbrev pub decreases-numbering_parts::number_parameter : goal.decreases-numbering_parts::number_parameter
decreases-numbering_parts::number_parameter l = 2 * nodes_in l.parameter.now

abbrev pub decreases-numbering_parts::number_body : goal.decreases-numbering_parts::number_body
decreases-numbering_parts::number_body l = 2 * nodes_in l.body.now

abbrev pub decreases-numbering_parts::number_function : goal.decreases-numbering_parts::number_function
decreases-numbering_parts::number_function l = 2 * nodes_in l.function.now

abbrev pub decreases-numbering_parts::number_variable_list : goal.decreases-numbering_parts::number_variable_list
decreases-numbering_parts::number_variable_list l = 2 * nodes_in l.variable_list.now

abbrev pub decreases-numbering_parts::number_variable : goal.decreases-numbering_parts::number_variable
decreases-numbering_parts::number_variable l = 2 * nodes_in l.variable.now

abbrev pub decreases-numbering_statements::number_stmt : goal.decreases-numbering_statements::number_stmt
decreases-numbering_statements::number_stmt l = 2 * nodes_in l.stmt.now

abbrev pub decreases-numbering_statements::number_block : goal.decreases-numbering_statements::number_block
decreases-numbering_statements::number_block l = 2 * nodes_in l.block.now

abbrev pub decreases-numbering_statements::number_case : goal.decreases-numbering_statements::number_case
decreases-numbering_statements::number_case l = 2 * nodes_in l.case.now

abbrev pub decreases-numbering_statements::number_handler : goal.decreases-numbering_statements::number_handler
decreases-numbering_statements::number_handler l = 2 * nodes_in l.handler.now

abbrev pub decreases-numbering_parts::number_one : goal.decreases-numbering_parts::number_one
decreases-numbering_parts::number_one l = 2 * nodes_in l.inner.now + 1

abbrev pub decreases-numbering_parts::number_two : goal.decreases-numbering_parts::number_two
decreases-numbering_parts::number_two l = 2 * (nodes_in l.left.now + nodes_in l.right.now) + 1

abbrev pub decreases-numbering_parts::number_typed : goal.decreases-numbering_parts::number_typed
decreases-numbering_parts::number_typed l = 2 * (nodes_in l.operand.now + nodes_in l.written.now) + 1

abbrev pub decreases-numbering_statements::number_for_initializer : goal.decreases-numbering_statements::number_for_initializer
decreases-numbering_statements::number_for_initializer l = 2 * nodes_in_part (for_initializer_of l.initializer.now) + 1

abbrev pub decreases-numbering_parts::number_type_parameters : goal.decreases-numbering_parts::number_type_parameters
decreases-numbering_parts::number_type_parameters l = 2 * nodes_in_all (trees_of l.type_parameters.now) + 1

abbrev pub decreases-numbering_parts::number_parameter_types : goal.decreases-numbering_parts::number_parameter_types
decreases-numbering_parts::number_parameter_types l = 2 * nodes_in_all (trees_of l.parameter_types.now) + 1

abbrev pub decreases-numbering_parts::number_parameters : goal.decreases-numbering_parts::number_parameters
decreases-numbering_parts::number_parameters l = 2 * nodes_in_all (trees_of l.parameters.now) + 1

abbrev pub decreases-numbering_parts::number_written_types : goal.decreases-numbering_parts::number_written_types
decreases-numbering_parts::number_written_types l = 2 * nodes_in_all (trees_of l.written_types.now) + 1

abbrev pub decreases-numbering_parts::number_strings : goal.decreases-numbering_parts::number_strings
decreases-numbering_parts::number_strings l = 2 * nodes_in_all (trees_of l.strings.now) + 1

abbrev pub decreases-numbering_parts::number_exprs : goal.decreases-numbering_parts::number_exprs
decreases-numbering_parts::number_exprs l = 2 * nodes_in_all (trees_of l.exprs.now) + 1

abbrev pub decreases-numbering_parts::number_entries : goal.decreases-numbering_parts::number_entries
decreases-numbering_parts::number_entries l = 2 * nodes_in_all (trees_of l.entries.now) + 1

abbrev pub decreases-numbering_parts::number_string_elements : goal.decreases-numbering_parts::number_string_elements
decreases-numbering_parts::number_string_elements l = 2 * nodes_in_all (trees_of l.string_elements.now) + 1

abbrev pub decreases-numbering_parts::number_arguments : goal.decreases-numbering_parts::number_arguments
decreases-numbering_parts::number_arguments l = 2 * nodes_in_all (trees_of l.arguments.now) + 1

abbrev pub decreases-numbering_statements::number_stmts : goal.decreases-numbering_statements::number_stmts
decreases-numbering_statements::number_stmts l = 2 * nodes_in_all (trees_of l.stmts.now) + 1

abbrev pub decreases-numbering_parts::number_variables : goal.decreases-numbering_parts::number_variables
decreases-numbering_parts::number_variables l = 2 * nodes_in_all (trees_of l.variables.now) + 1

abbrev pub decreases-numbering_statements::number_cases : goal.decreases-numbering_statements::number_cases
decreases-numbering_statements::number_cases l = 2 * nodes_in_all (trees_of l.cases.now) + 1

abbrev pub decreases-numbering_statements::number_handlers : goal.decreases-numbering_statements::number_handlers
decreases-numbering_statements::number_handlers l = 2 * nodes_in_all (trees_of l.handlers.now) + 1

abbrev pub decreases-numbering_parts::number_optional_type_arguments : goal.decreases-numbering_parts::number_optional_type_arguments
decreases-numbering_parts::number_optional_type_arguments l = 2 * nodes_in_part (part_of l.type_arguments.now) + 1

abbrev pub decreases-numbering_parts::number_optional_written_type : goal.decreases-numbering_parts::number_optional_written_type
decreases-numbering_parts::number_optional_written_type l = 2 * nodes_in_part (part_of l.written_type.now) + 1

abbrev pub decreases-numbering_parts::number_optional_expr : goal.decreases-numbering_parts::number_optional_expr
decreases-numbering_parts::number_optional_expr l = 2 * nodes_in_part (part_of l.expr.now) + 1

abbrev pub decreases-numbering_statements::number_optional_stmt : goal.decreases-numbering_statements::number_optional_stmt
decreases-numbering_statements::number_optional_stmt l = 2 * nodes_in_part (part_of l.stmt.now) + 1

abbrev pub decreases-numbering_statements::number_optional_block : goal.decreases-numbering_statements::number_optional_block
decreases-numbering_statements::number_optional_block l = 2 * nodes_in_part (part_of l.block.now) + 1

abbrev pub invariant-numbering_parts::number_type_parameters-loop-item : goal.invariant-numbering_parts::number_type_parameters-loop-item
invariant-numbering_parts::number_type_parameters-loop-item l = IsNumberedUpTo l.item-index l.first l.initial.type_parameters l.next l.type_parameters

abbrev pub invariant-numbering_parts::number_parameter_types-loop-item : goal.invariant-numbering_parts::number_parameter_types-loop-item
invariant-numbering_parts::number_parameter_types-loop-item l = IsNumberedUpTo l.item-index l.first l.initial.parameter_types l.next l.parameter_types

abbrev pub invariant-numbering_parts::number_parameters-loop-item : goal.invariant-numbering_parts::number_parameters-loop-item
invariant-numbering_parts::number_parameters-loop-item l = IsNumberedUpTo l.item-index l.first l.initial.parameters l.next l.parameters

abbrev pub invariant-numbering_parts::number_written_types-loop-item : goal.invariant-numbering_parts::number_written_types-loop-item
invariant-numbering_parts::number_written_types-loop-item l = IsNumberedUpTo l.item-index l.first l.initial.written_types l.next l.written_types

abbrev pub invariant-numbering_parts::number_strings-loop-item : goal.invariant-numbering_parts::number_strings-loop-item
invariant-numbering_parts::number_strings-loop-item l = IsNumberedUpTo l.item-index l.first l.initial.strings l.next l.strings

abbrev pub invariant-numbering_parts::number_exprs-loop-item : goal.invariant-numbering_parts::number_exprs-loop-item
invariant-numbering_parts::number_exprs-loop-item l = IsNumberedUpTo l.item-index l.first l.initial.exprs l.next l.exprs

abbrev pub invariant-numbering_parts::number_entries-loop-item : goal.invariant-numbering_parts::number_entries-loop-item
invariant-numbering_parts::number_entries-loop-item l = IsNumberedUpTo l.item-index l.first l.initial.entries l.next l.entries

abbrev pub invariant-numbering_parts::number_string_elements-loop-item : goal.invariant-numbering_parts::number_string_elements-loop-item
invariant-numbering_parts::number_string_elements-loop-item l = IsNumberedUpTo l.item-index l.first l.initial.string_elements l.next l.string_elements

abbrev pub invariant-numbering_parts::number_arguments-loop-item : goal.invariant-numbering_parts::number_arguments-loop-item
invariant-numbering_parts::number_arguments-loop-item l = IsNumberedUpTo l.item-index l.first l.initial.arguments l.next l.arguments

abbrev pub invariant-numbering_statements::number_stmts-loop-item : goal.invariant-numbering_statements::number_stmts-loop-item
invariant-numbering_statements::number_stmts-loop-item l = IsNumberedUpTo l.item-index l.first l.initial.stmts l.next l.stmts

abbrev pub invariant-numbering_parts::number_variables-loop-item : goal.invariant-numbering_parts::number_variables-loop-item
invariant-numbering_parts::number_variables-loop-item l = IsNumberedUpTo l.item-index l.first l.initial.variables l.next l.variables

abbrev pub invariant-numbering_statements::number_cases-loop-item : goal.invariant-numbering_statements::number_cases-loop-item
invariant-numbering_statements::number_cases-loop-item l = IsNumberedUpTo l.item-index l.first l.initial.cases l.next l.cases

abbrev pub invariant-numbering_statements::number_handlers-loop-item : goal.invariant-numbering_statements::number_handlers-loop-item
invariant-numbering_statements::number_handlers-loop-item l = IsNumberedUpTo l.item-index l.first l.initial.handlers l.next l.handlers
