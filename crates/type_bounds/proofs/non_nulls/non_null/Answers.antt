use Rattle.std.proofs.Common.{sym, subst}
use Rattle.dart_types.specs.Ty.{Ty}
use Rattle.dart_types.specs.Sub.{Sub}
use Rattle.type_bounds.proofs.NonNulls.{non_null_below}
use Rattle.type_bounds.proofs.non_nulls.non_null.Goals as goal

pub returns-clause-below : goal.returns-clause-below
returns-clause-below c =
    subst (λ (u : Ty). Sub c.args.rows.now.table u c.args.t.now) (sym c.in_ok-formed.ensures) (non_null_below c.args.rows.now.table c.args.t.now)
