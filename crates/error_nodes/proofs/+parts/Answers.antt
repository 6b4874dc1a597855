use Rattle.std.proofs.Common.{arith}
use Rattle.error_nodes.proofs.Sequences.{added_at_end}
use Rattle.error_nodes.proofs.+parts.Goals as goal

pub types::add_from_type_parameters-returns : goal.types::add_from_type_parameters-returns
types::add_from_type_parameters-returns t c = added_at_end _ _ _ _ c.loop-item.invariant (omega arith)

pub types::add_from_parameter_types-returns : goal.types::add_from_parameter_types-returns
types::add_from_parameter_types-returns t c = added_at_end _ _ _ _ c.loop-item.invariant (omega arith)

pub functions::add_from_parameters-returns : goal.functions::add_from_parameters-returns
functions::add_from_parameters-returns t c = added_at_end _ _ _ _ c.loop-item.invariant (omega arith)

pub types::add_from_written_types-returns : goal.types::add_from_written_types-returns
types::add_from_written_types-returns t c = added_at_end _ _ _ _ c.loop-item.invariant (omega arith)

pub expressions::add_from_strings-returns : goal.expressions::add_from_strings-returns
expressions::add_from_strings-returns t c = added_at_end _ _ _ _ c.loop-item.invariant (omega arith)

pub expressions::add_from_exprs-returns : goal.expressions::add_from_exprs-returns
expressions::add_from_exprs-returns t c = added_at_end _ _ _ _ c.loop-item.invariant (omega arith)

pub expressions::add_from_entries-returns : goal.expressions::add_from_entries-returns
expressions::add_from_entries-returns t c = added_at_end _ _ _ _ c.loop-item.invariant (omega arith)

pub expressions::add_from_string_elements-returns : goal.expressions::add_from_string_elements-returns
expressions::add_from_string_elements-returns t c = added_at_end _ _ _ _ c.loop-item.invariant (omega arith)

pub expressions::add_from_arguments-returns : goal.expressions::add_from_arguments-returns
expressions::add_from_arguments-returns t c = added_at_end _ _ _ _ c.loop-item.invariant (omega arith)

pub statements::add_from_stmts-returns : goal.statements::add_from_stmts-returns
statements::add_from_stmts-returns t c = added_at_end _ _ _ _ c.loop-item.invariant (omega arith)

pub functions::add_from_variables-returns : goal.functions::add_from_variables-returns
functions::add_from_variables-returns t c = added_at_end _ _ _ _ c.loop-item.invariant (omega arith)

pub statements::add_from_cases-returns : goal.statements::add_from_cases-returns
statements::add_from_cases-returns t c = added_at_end _ _ _ _ c.loop-item.invariant (omega arith)

pub statements::add_from_handlers-returns : goal.statements::add_from_handlers-returns
statements::add_from_handlers-returns t c = added_at_end _ _ _ _ c.loop-item.invariant (omega arith)
