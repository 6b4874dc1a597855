use Rattle.std.proofs.Common.{sym, ◌∙◌}
use Rattle.type_bounds.proofs.NonNulls.{bound_weighs, bound_without_null, no_bound, bound_with_null}
use Rattle.type_bounds.proofs.non_nulls.var_without_null.Goals as goal

pub returns-then-is_subtype_of_object : goal.returns-then-is_subtype_of_object
returns-then-is_subtype_of_object c =
    bound_without_null c.args.rows.now.table c.row_laws.ensures c.args.var c.in-Some.bound.now (sym c.in-Some.ensures) (sym c.is_subtype_of_object.ensures.test ∙ c.if-is_subtype_of_object.true)

pub returns-in-None : goal.returns-in-None
returns-in-None c = no_bound c.args.rows.now.table c.row_laws.ensures c.args.var (sym c.in-None.ensures)

pub returns-else-is_subtype_of_object : goal.returns-else-is_subtype_of_object
returns-else-is_subtype_of_object c = (
  bound_weighs c.args.rows.now.table c.row_laws.ensures c.args.var c.in-Some.bound.now (sym c.in-Some.ensures),
  bound_with_null c.args.rows.now.table c.row_laws.ensures c.args.var c.in-Some.bound.now (sym c.in-Some.ensures) (sym c.is_subtype_of_object.ensures.test ∙ c.if-is_subtype_of_object.false),
)
