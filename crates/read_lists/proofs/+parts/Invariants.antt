use Rattle.std.specs.Prelude.{◌+◌, ◌*◌}
use Rattle.dart_tree.specs.Tree.{trees_of, part_of}
use Rattle.dart_tree.specs.Numbers.{nodes_in, nodes_in_all, nodes_in_part}
use Rattle.read_lists.proofs.Sequences.{AreReadUpTo}
use Rattle.read_lists.proofs.+parts.Given as goal

abbrev pub decreases-types::read_written_type : goal.decreases-types::read_written_type
decreases-types::read_written_type g l = 2 * nodes_in l.written_type.now

abbrev pub decreases-types::read_type_arguments : goal.decreases-types::read_type_arguments
decreases-types::read_type_arguments g l = 2 * nodes_in l.type_arguments.now

abbrev pub decreases-types::read_type_parameter : goal.decreases-types::read_type_parameter
decreases-types::read_type_parameter g l = 2 * nodes_in l.type_parameter.now

abbrev pub decreases-types::read_parameter_type : goal.decreases-types::read_parameter_type
decreases-types::read_parameter_type g l = 2 * nodes_in l.parameter_type.now

abbrev pub decreases-expressions::read_expr : goal.decreases-expressions::read_expr
decreases-expressions::read_expr g l = 2 * nodes_in l.expr.now

abbrev pub decreases-expressions::read_string : goal.decreases-expressions::read_string
decreases-expressions::read_string g l = 2 * nodes_in l.string.now

abbrev pub decreases-expressions::read_string_element : goal.decreases-expressions::read_string_element
decreases-expressions::read_string_element g l = 2 * nodes_in l.string_element.now

abbrev pub decreases-expressions::read_entry : goal.decreases-expressions::read_entry
decreases-expressions::read_entry g l = 2 * nodes_in l.entry.now

abbrev pub decreases-expressions::read_argument_list : goal.decreases-expressions::read_argument_list
decreases-expressions::read_argument_list g l = 2 * nodes_in l.argument_list.now

abbrev pub decreases-expressions::read_argument : goal.decreases-expressions::read_argument
decreases-expressions::read_argument g l = 2 * nodes_in l.argument.now

abbrev pub decreases-functions::read_parameter_list : goal.decreases-functions::read_parameter_list
decreases-functions::read_parameter_list g l = 2 * nodes_in l.parameter_list.now

abbrev pub decreases-functions::read_parameter : goal.decreases-functions::read_parameter
decreases-functions::read_parameter g l = 2 * nodes_in l.parameter.now

abbrev pub decreases-functions::read_body : goal.decreases-functions::read_body
decreases-functions::read_body g l = 2 * nodes_in l.body.now

abbrev pub decreases-types::read_type_parameters : goal.decreases-types::read_type_parameters
decreases-types::read_type_parameters g l = 2 * nodes_in_all (trees_of l.type_parameters.now) + 1

abbrev pub decreases-types::read_parameter_types : goal.decreases-types::read_parameter_types
decreases-types::read_parameter_types g l = 2 * nodes_in_all (trees_of l.parameter_types.now) + 1

abbrev pub decreases-functions::read_parameters : goal.decreases-functions::read_parameters
decreases-functions::read_parameters g l = 2 * nodes_in_all (trees_of l.parameters.now) + 1

abbrev pub decreases-types::read_written_types : goal.decreases-types::read_written_types
decreases-types::read_written_types g l = 2 * nodes_in_all (trees_of l.written_types.now) + 1

abbrev pub decreases-expressions::read_strings : goal.decreases-expressions::read_strings
decreases-expressions::read_strings g l = 2 * nodes_in_all (trees_of l.strings.now) + 1

abbrev pub decreases-expressions::read_exprs : goal.decreases-expressions::read_exprs
decreases-expressions::read_exprs g l = 2 * nodes_in_all (trees_of l.exprs.now) + 1

abbrev pub decreases-expressions::read_entries : goal.decreases-expressions::read_entries
decreases-expressions::read_entries g l = 2 * nodes_in_all (trees_of l.entries.now) + 1

abbrev pub decreases-expressions::read_string_elements : goal.decreases-expressions::read_string_elements
decreases-expressions::read_string_elements g l = 2 * nodes_in_all (trees_of l.string_elements.now) + 1

abbrev pub decreases-expressions::read_arguments : goal.decreases-expressions::read_arguments
decreases-expressions::read_arguments g l = 2 * nodes_in_all (trees_of l.arguments.now) + 1

abbrev pub decreases-types::read_optional_type_arguments : goal.decreases-types::read_optional_type_arguments
decreases-types::read_optional_type_arguments g l = 2 * nodes_in_part (part_of l.type_arguments.now) + 1

abbrev pub decreases-types::read_optional_written_type : goal.decreases-types::read_optional_written_type
decreases-types::read_optional_written_type g l = 2 * nodes_in_part (part_of l.written_type.now) + 1

abbrev pub decreases-expressions::read_optional_expr : goal.decreases-expressions::read_optional_expr
decreases-expressions::read_optional_expr g l = 2 * nodes_in_part (part_of l.expr.now) + 1

abbrev pub invariant-types::read_type_parameters-loop-item : goal.invariant-types::read_type_parameters-loop-item
invariant-types::read_type_parameters-loop-item g l = AreReadUpTo l.item-index (g.R.ReadsLists.lists l.reader) l.room l.initial.type_parameters l.type_parameters

abbrev pub invariant-types::read_parameter_types-loop-item : goal.invariant-types::read_parameter_types-loop-item
invariant-types::read_parameter_types-loop-item g l = AreReadUpTo l.item-index (g.R.ReadsLists.lists l.reader) l.room l.initial.parameter_types l.parameter_types

abbrev pub invariant-functions::read_parameters-loop-item : goal.invariant-functions::read_parameters-loop-item
invariant-functions::read_parameters-loop-item g l = AreReadUpTo l.item-index (g.R.ReadsLists.lists l.reader) l.room l.initial.parameters l.parameters

abbrev pub invariant-types::read_written_types-loop-item : goal.invariant-types::read_written_types-loop-item
invariant-types::read_written_types-loop-item g l = AreReadUpTo l.item-index (g.R.ReadsLists.lists l.reader) l.room l.initial.written_types l.written_types

abbrev pub invariant-expressions::read_strings-loop-item : goal.invariant-expressions::read_strings-loop-item
invariant-expressions::read_strings-loop-item g l = AreReadUpTo l.item-index (g.R.ReadsLists.lists l.reader) l.room l.initial.strings l.strings

abbrev pub invariant-expressions::read_exprs-loop-item : goal.invariant-expressions::read_exprs-loop-item
invariant-expressions::read_exprs-loop-item g l = AreReadUpTo l.item-index (g.R.ReadsLists.lists l.reader) l.room l.initial.exprs l.exprs

abbrev pub invariant-expressions::read_entries-loop-item : goal.invariant-expressions::read_entries-loop-item
invariant-expressions::read_entries-loop-item g l = AreReadUpTo l.item-index (g.R.ReadsLists.lists l.reader) l.room l.initial.entries l.entries

abbrev pub invariant-expressions::read_string_elements-loop-item : goal.invariant-expressions::read_string_elements-loop-item
invariant-expressions::read_string_elements-loop-item g l = AreReadUpTo l.item-index (g.R.ReadsLists.lists l.reader) l.room l.initial.string_elements l.string_elements

abbrev pub invariant-expressions::read_arguments-loop-item : goal.invariant-expressions::read_arguments-loop-item
invariant-expressions::read_arguments-loop-item g l = AreReadUpTo l.item-index (g.R.ReadsLists.lists l.reader) l.room l.initial.arguments l.arguments
