use Rattle.std.proofs.Common.{sym, ◌∙◌}
use Rattle.resolve.proofs.Receivers.{bound_without, object_without, unbound_without}
use Rattle.resolve.proofs.judge.receivers.bound_with_null.Goals as goal

pub returns-in-None : goal.returns-in-None
returns-in-None c =
    unbound_without c.args.rows.now.table c.row_laws.ensures c.members_are_those_of_bounds.ensures c.non_null_laws.ensures.steps c.args.var (sym c.in-None.ensures)

pub returns-then-is_subtype_of_object : goal.returns-then-is_subtype_of_object
returns-then-is_subtype_of_object c =
    object_without c.args.rows.now.table c.row_laws.ensures c.members_are_those_of_bounds.ensures c.non_null_laws.ensures.steps c.args.var c.in-Some.bound.now (sym c.in-Some.ensures)
    (sym c.is_subtype_of_object.ensures.test ∙ c.if-is_subtype_of_object.true)

pub returns-else-is_subtype_of_object : goal.returns-else-is_subtype_of_object
returns-else-is_subtype_of_object c =
    bound_without c.args.rows.now.table c.row_laws.ensures c.members_are_those_of_bounds.ensures c.non_null_laws.ensures.steps c.args.var c.in-Some.bound.now (sym c.in-Some.ensures)
    (sym c.is_subtype_of_object.ensures.test ∙ c.if-is_subtype_of_object.false)
