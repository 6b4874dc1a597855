use Rattle.elaborate.proofs.MadeCode.{made_as, name_made}
use Rattle.elaborate.proofs.values.name_row.Goals as goal

pub returns-in-Some : goal.returns-in-Some
returns-in-Some c =
    made_as c.step_at.result
    (name_made c.args.said.now c.args.at c.args.values.now c.known_before.result.now c.in-Some.var _ c.slot_at.result c.slot_of_local.result
    c.in-Some.ensures
    c.slot_at.ensures
    c.slot_of_local.ensures
    c.known_before.ensures)
    c.step_at.ensures
