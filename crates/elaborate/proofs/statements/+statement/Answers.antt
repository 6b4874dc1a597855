use Rattle.std.proofs.Common.{map, ap, ◌∙◌, arith}
use Rattle.std.proofs.lemmas.List.{take_all}
use Rattle.core_emit.specs.Code.{in_order}
use Rattle.elaborate.specs.Rows.{statement_code}
use Rattle.elaborate.proofs.MadeCode.{statements_in_order}
use Rattle.elaborate.proofs.SizeOfLists.{nodes_in-item}
use Rattle.elaborate.proofs.statements.+statement.Goals as goal

pub statements_code-statement_code-requires : goal.statements_code-statement_code-requires
statements_code-statement_code-requires t c =
    omega (arith, nodes_in-item c.args.statements.now c.loop-statement.statement-index c.statement-item.result c.loop-statement-test.true c.statement-item.is)

pub statements_code-returns : goal.statements_code-returns
statements_code-returns t c =
    c.in_order.ensures
    ∙ ap in_order (c.loop-statement.invariant ∙ ap (map (statement_code c.args.said.now)) (take_all c.loop-statement.statement-index c.args.statements.now (omega arith)))
    ∙ statements_in_order c.args.said.now c.args.statements.now
