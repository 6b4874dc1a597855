use Rattle.std.proofs.Common.{ap, ◌∙◌}
use Rattle.elaborate.specs.Sources.{known_behind}
use Rattle.elaborate.proofs.MadeCode.{made_as, no_argument, one_argument, operator_made, print_made}
use Rattle.elaborate.proofs.values.+value.Goals as goal

pub operator_code-returns : goal.operator_code-returns
operator_code-returns t c =
    made_as c.pair-2.result
    (operator_made c.args.said.now c.args.at c.args.values.now c.deref.result.now c.known_behind-flow.result.now c.args.kind c.args.left.now c.args.right.now c.operand_of-one.result c.operand_of-other.result c.in_ok-first.first c.in_ok-second.second c.in_ok-own.own c.in_ok-rest.rest
    c.operand_of-one.ensures
    c.operand_of-other.ensures
    (c.deref.ensures.value ∙ c.in_ok-held.ensures)
    (c.known_behind-flow.ensures ∙ ap (known_behind c.args.said.now) c.place.ensures)
    c.in_ok-first.ensures
    c.in_ok-second.ensures
    c.in_ok-own.ensures
    c.in_ok-rest.ensures)
    c.pair-2.ensures

pub value_printed-returns : goal.value_printed-returns
value_printed-returns t c =
    made_as c.pair.result
    (print_made c.args.said.now c.args.at c.args.values.now c.deref.result.now c.known_behind-flow.result.now c.args.value.now c.operand_of-from.result c.in_ok-first.first c.in_ok-own.own
    c.operand_of-from.ensures
    (c.deref.ensures.value ∙ c.in_ok-held.ensures)
    (c.known_behind-flow.ensures ∙ ap (known_behind c.args.said.now) c.place.ensures)
    c.in_ok-first.ensures
    c.in_ok-own.ensures)
    c.pair.ensures

pub one_printed-returns-then-arguments-eq1 : goal.one_printed-returns-then-arguments-eq1
one_printed-returns-then-arguments-eq1 t c =
    made_as c.printed.result
    (one_argument c.args.said.now c.args.at c.args.values.now c.args.arguments.now c.index-arguments-0.result c.if-arguments-eq1.true c.index-arguments-0.is)
    c.printed.ensures

pub one_printed-returns : goal.one_printed-returns
one_printed-returns t c = c.nothing.ensures ∙ no_argument c.args.said.now c.args.at c.args.values.now c.args.arguments.now c.if-arguments-eq1.false
