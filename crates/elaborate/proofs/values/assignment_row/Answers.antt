use Rattle.std.proofs.Common.{◌∙◌}
use Rattle.elaborate.proofs.MadeCode.{made_as, write_made}
use Rattle.elaborate.proofs.values.assignment_row.Goals as goal

pub returns-in_ok-held-in-Some : goal.returns-in_ok-held-in-Some
returns-in_ok-held-in-Some c =
    made_as c.step_at.result
    (write_made c.args.said.now c.args.at c.args.values.now c.deref.result.now c.args.flow.now c.in-Some.var _ c.slot_of_local.result c.args.value
    c.in-Some.ensures
    c.slot_of_local.ensures
    (c.deref.ensures.value ∙ c.in_ok-held-in-Some.ensures))
    c.step_at.ensures
