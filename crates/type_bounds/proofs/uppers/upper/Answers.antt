use Rattle.std.proofs.Common.{subst}
use Rattle.dart_types.specs.Formed.{Forms}
use Rattle.type_bounds.proofs.BoundsHold.{upper_is}
use Rattle.type_bounds.proofs.FormedBounds.{upper_formed}
use Rattle.type_bounds.proofs.uppers.upper.Goals as goal

pub returns-clause-forms : goal.returns-clause-forms
returns-clause-forms c =
    subst (Forms c.finish.result) (upper_is c.args.rows.now.table c.row_laws.ensures c.in_ok-part.ensures.bound.1) (c.finish.ensures c.in_ok-part.ensures.bound.0 c.in_ok-part.ensures.bound.2)

pub returns-clause-above : goal.returns-clause-above
returns-clause-above c =
    upper_formed c.args.rows.now.table c.row_laws.ensures c.finish.result c.in_ok-part.ensures.bound.1 (c.finish.ensures c.in_ok-part.ensures.bound.0 c.in_ok-part.ensures.bound.2)
