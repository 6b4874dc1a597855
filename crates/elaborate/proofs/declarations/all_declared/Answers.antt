use Rattle.std.proofs.Common.{map, ap, ◌∙◌, arith}
use Rattle.std.proofs.lemmas.List.{take_all}
use Rattle.core_emit.specs.Code.{in_order}
use Rattle.elaborate.specs.Rows.{declared_code}
use Rattle.elaborate.proofs.MadeCode.{variables_in_order}
use Rattle.elaborate.proofs.declarations.all_declared.Goals as goal

pub returns : goal.returns
returns c =
    c.in_order.ensures
    ∙ ap in_order (c.loop-variable.invariant ∙ ap (map (declared_code c.args.said.now)) (take_all c.loop-variable.variable-index c.args.variables.now (omega arith)))
    ∙ variables_in_order c.args.said.now c.args.variables.now
