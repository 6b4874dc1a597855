use Rattle.std.proofs.Common.{arith}
use Rattle.built_forms.proofs.Sizes.{nodes_in-item}
use Rattle.built_forms.proofs.statements.+statements.Goals as goal

pub are_statements-is_statement-requires : goal.are_statements-is_statement-requires
are_statements-is_statement-requires t c =
    omega (arith, nodes_in-item c.args.statements.now c.loop-statement.statement-index c.statement-item.result c.loop-statement-test.true c.statement-item.is)
