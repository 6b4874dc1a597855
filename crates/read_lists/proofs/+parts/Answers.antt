use Rattle.std.proofs.Common.{arith}
use Rattle.read_lists.proofs.Sequences.{read_at_end}
use Rattle.read_lists.proofs.+parts.Goals as goal

pub types::read_type_parameters-returns : goal.types::read_type_parameters-returns
types::read_type_parameters-returns g t c = read_at_end _ _ _ _ _ c.loop-item.invariant (omega arith)

pub types::read_parameter_types-returns : goal.types::read_parameter_types-returns
types::read_parameter_types-returns g t c = read_at_end _ _ _ _ _ c.loop-item.invariant (omega arith)

pub functions::read_parameters-returns : goal.functions::read_parameters-returns
functions::read_parameters-returns g t c = read_at_end _ _ _ _ _ c.loop-item.invariant (omega arith)

pub types::read_written_types-returns : goal.types::read_written_types-returns
types::read_written_types-returns g t c = read_at_end _ _ _ _ _ c.loop-item.invariant (omega arith)

pub expressions::read_strings-returns : goal.expressions::read_strings-returns
expressions::read_strings-returns g t c = read_at_end _ _ _ _ _ c.loop-item.invariant (omega arith)

pub expressions::read_exprs-returns : goal.expressions::read_exprs-returns
expressions::read_exprs-returns g t c = read_at_end _ _ _ _ _ c.loop-item.invariant (omega arith)

pub expressions::read_entries-returns : goal.expressions::read_entries-returns
expressions::read_entries-returns g t c = read_at_end _ _ _ _ _ c.loop-item.invariant (omega arith)

pub expressions::read_string_elements-returns : goal.expressions::read_string_elements-returns
expressions::read_string_elements-returns g t c = read_at_end _ _ _ _ _ c.loop-item.invariant (omega arith)

pub expressions::read_arguments-returns : goal.expressions::read_arguments-returns
expressions::read_arguments-returns g t c = read_at_end _ _ _ _ _ c.loop-item.invariant (omega arith)
