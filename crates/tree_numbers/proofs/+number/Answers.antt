use Rattle.std.proofs.Common.{arith}
use Rattle.tree_numbers.proofs.Sequences.{numbered_at_end}
use Rattle.tree_numbers.proofs.+number.Goals as goal

pub numbering_parts::number_type_parameters-returns-clause-trees : goal.numbering_parts::number_type_parameters-returns-clause-trees
numbering_parts::number_type_parameters-returns-clause-trees t c = numbered_at_end _ _ _ _ _ c.loop-item.invariant (omega arith)

pub numbering_parts::number_parameter_types-returns-clause-trees : goal.numbering_parts::number_parameter_types-returns-clause-trees
numbering_parts::number_parameter_types-returns-clause-trees t c = numbered_at_end _ _ _ _ _ c.loop-item.invariant (omega arith)

pub numbering_parts::number_parameters-returns-clause-trees : goal.numbering_parts::number_parameters-returns-clause-trees
numbering_parts::number_parameters-returns-clause-trees t c = numbered_at_end _ _ _ _ _ c.loop-item.invariant (omega arith)

pub numbering_parts::number_written_types-returns-clause-trees : goal.numbering_parts::number_written_types-returns-clause-trees
numbering_parts::number_written_types-returns-clause-trees t c = numbered_at_end _ _ _ _ _ c.loop-item.invariant (omega arith)

pub numbering_parts::number_strings-returns-clause-trees : goal.numbering_parts::number_strings-returns-clause-trees
numbering_parts::number_strings-returns-clause-trees t c = numbered_at_end _ _ _ _ _ c.loop-item.invariant (omega arith)

pub numbering_parts::number_exprs-returns-clause-trees : goal.numbering_parts::number_exprs-returns-clause-trees
numbering_parts::number_exprs-returns-clause-trees t c = numbered_at_end _ _ _ _ _ c.loop-item.invariant (omega arith)

pub numbering_parts::number_entries-returns-clause-trees : goal.numbering_parts::number_entries-returns-clause-trees
numbering_parts::number_entries-returns-clause-trees t c = numbered_at_end _ _ _ _ _ c.loop-item.invariant (omega arith)

pub numbering_parts::number_string_elements-returns-clause-trees : goal.numbering_parts::number_string_elements-returns-clause-trees
numbering_parts::number_string_elements-returns-clause-trees t c = numbered_at_end _ _ _ _ _ c.loop-item.invariant (omega arith)

pub numbering_parts::number_arguments-returns-clause-trees : goal.numbering_parts::number_arguments-returns-clause-trees
numbering_parts::number_arguments-returns-clause-trees t c = numbered_at_end _ _ _ _ _ c.loop-item.invariant (omega arith)

pub numbering_statements::number_stmts-returns-clause-trees : goal.numbering_statements::number_stmts-returns-clause-trees
numbering_statements::number_stmts-returns-clause-trees t c = numbered_at_end _ _ _ _ _ c.loop-item.invariant (omega arith)

pub numbering_parts::number_variables-returns-clause-trees : goal.numbering_parts::number_variables-returns-clause-trees
numbering_parts::number_variables-returns-clause-trees t c = numbered_at_end _ _ _ _ _ c.loop-item.invariant (omega arith)

pub numbering_statements::number_cases-returns-clause-trees : goal.numbering_statements::number_cases-returns-clause-trees
numbering_statements::number_cases-returns-clause-trees t c = numbered_at_end _ _ _ _ _ c.loop-item.invariant (omega arith)

pub numbering_statements::number_handlers-returns-clause-trees : goal.numbering_statements::number_handlers-returns-clause-trees
numbering_statements::number_handlers-returns-clause-trees t c = numbered_at_end _ _ _ _ _ c.loop-item.invariant (omega arith)
