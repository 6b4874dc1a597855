use Rattle.std.proofs.Common.{sym, subst}
use Rattle.dart_types.specs.Ty.{Ty}
use Rattle.dart_types.specs.Sub.{Sub}
use Rattle.type_bounds.proofs.LeftBelow.{factor_below}
use Rattle.type_bounds.proofs.factors.factor.Goals as goal

pub returns-clause-below : goal.returns-clause-below
returns-clause-below c =
    subst (λ (u : Ty). Sub c.args.rows.now.table u c.args.s.now) (sym c.in_ok-formed.ensures) (factor_below c.args.rows.now.table c.args.s.now c.args.t.now)
