use Rattle.std.proofs.Common.{subst}
use Rattle.dart_types.specs.Formed.{Forms}
use Rattle.type_bounds.proofs.BoundsHold.{lower_is}
use Rattle.type_bounds.proofs.FormedBounds.{lower_formed}
use Rattle.type_bounds.proofs.uppers.lower.Goals as goal

pub returns-clause-forms : goal.returns-clause-forms
returns-clause-forms c =
    subst (Forms c.finish.result) (lower_is c.args.rows.now.table c.row_laws.ensures c.in_ok-part.ensures.bound.1) (c.finish.ensures c.in_ok-part.ensures.bound.0 c.in_ok-part.ensures.bound.2)

pub returns-clause-below : goal.returns-clause-below
returns-clause-below c =
    lower_formed c.args.rows.now.table c.row_laws.ensures c.finish.result c.in_ok-part.ensures.bound.1 (c.finish.ensures c.in_ok-part.ensures.bound.0 c.in_ok-part.ensures.bound.2)
