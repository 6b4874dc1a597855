-- What an answer of a call that forms a bound is to both types.
use Rattle.std.proofs.Common.{Result, Ok, Err, IfOk, sym, subst}
use Rattle.dart_types.specs.Ty.{Ty}
use Rattle.dart_types.specs.Tables.{Table}
use Rattle.dart_types.specs.Sub.{Sub}
use Rattle.dart_types.specs.Formed.{Forms}
use Rattle.dart_types.specs.declared.refusal.TypeRefusal.{TypeRefusal}
use Rattle.dart_types.specs.Laws.{RowLaws}
use Rattle.type_bounds.specs.Bounds.{Upper, Lower}
use Rattle.type_bounds.specs.Valid.{IsValid}
use Rattle.type_bounds.proofs.BoundLaws.{upper_above, lower_below}

module _ (table : Table) (laws : RowLaws table) where
  pub upper_formed : (r : Result Ty TypeRefusal) {s t u : Ty} → Upper table s t u → Forms r u → IfOk r (λ bound. IsValid bound → Sub table s bound × Sub table t bound)
  upper_formed (Ok bound) {s = s} {t = t} a f = subst (λ (w : Ty). IsValid w → Sub table s w × Sub table t w) (sym f.0) (λ v. upper_above table laws a v)
  upper_formed (Err why) a f = tt

  pub lower_formed : (r : Result Ty TypeRefusal) {s t u : Ty} → Lower table s t u → Forms r u → IfOk r (λ bound. IsValid bound → Sub table bound s × Sub table bound t)
  lower_formed (Ok bound) {s = s} {t = t} a f = subst (λ (w : Ty). IsValid w → Sub table w s × Sub table w t) (sym f.0) (λ v. lower_below table laws a v)
  lower_formed (Err why) a f = tt
