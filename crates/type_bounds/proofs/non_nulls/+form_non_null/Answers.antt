use Rattle.std.proofs.Common.{arith}
use Rattle.type_bounds.proofs.non_nulls.+form_non_null.Goals as goal

pub form_non_null-requires : goal.form_non_null-requires
form_non_null-requires t c = (omega (arith, c.in-Bare.ensures.0, c.decreases), tt)

pub form_non_null-requires-in-Promoted : goal.form_non_null-requires-in-Promoted
form_non_null-requires-in-Promoted t c = (omega (arith, c.in-Promoted.ensures.0, c.decreases), tt)
