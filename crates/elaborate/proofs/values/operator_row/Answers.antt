use Rattle.std.proofs.Common.{ap, ◌∙◌}
use Rattle.elaborate.specs.Known.{holding}
use Rattle.elaborate.proofs.MadeCode.{made_as, operation_made}
use Rattle.elaborate.proofs.values.operator_row.Goals as goal

pub returns-in_ok-both-in-Some : goal.returns-in_ok-both-in-Some
returns-in_ok-both-in-Some c =
    made_as c.step_at.result
    (operation_made c.args.said.now c.args.at c.args.values.now c.deref-in-Some.result.now c.args.flow.now c.args.kind c.args.left c.args.right c.slot_at.result c.in-Some.step
    c.in-Some.ensures
    c.slot_at.ensures
    (c.deref-in-Some.ensures.value ∙ c.in_ok-both-in-Some.ensures ∙ ap (λ values. holding values c.args.right) (c.deref.ensures.value ∙ c.in_ok-one-in-Some.ensures)))
    c.step_at.ensures
