-- What is left of a type is a subtype of it.
use Rattle.std.proofs.Common.{Bool, true, false, cond}
use Rattle.dart_types.specs.Ty.{Ty, invalid, never, void, null, interface, function, variable, promoted, nullable}
use Rattle.dart_types.specs.Normal.{nullable_of}
use Rattle.dart_types.specs.Tables.{Table}
use Rattle.dart_types.specs.Sub.{Sub, reflexivity, left_bottom, right_nullable}
use Rattle.dart_types.specs.SubTest.{sub}
use Rattle.type_bounds.specs.Factor.{unless_below, with_null, factor_of}
use Rattle.type_bounds.proofs.BoundLaws.{marked_below}

module _ (table : Table) where
  unless : (s t left : Ty) → Sub table left s → Sub table (unless_below table s t left) s
  unless s t left a = at (sub table s t)
    where
      at : (b : Bool) → Sub table (cond b never left) s
      at true = left_bottom
      at false = a

  marked : (r t left : Ty) → Sub table left r → Sub table (with_null table t left) (nullable r)
  marked r t left a = at (sub table null t)
    where
      at : (b : Bool) → Sub table (cond b left (nullable_of left)) (nullable r)
      at true = right_nullable a
      at false = marked_below table left r a

  pub factor_below : (s t : Ty) → Sub table (factor_of table s t) s
  factor_below invalid t = unless invalid t invalid reflexivity
  factor_below never t = unless never t never reflexivity
  factor_below void t = unless void t void reflexivity
  factor_below null t = unless null t null reflexivity
  factor_below (interface c ts) t = unless (interface c ts) t (interface c ts) reflexivity
  factor_below (function r o n e) t = unless (function r o n e) t (function r o n e) reflexivity
  factor_below (variable x) t = unless (variable x) t (variable x) reflexivity
  factor_below (promoted x u) t = unless (promoted x u) t (promoted x u) reflexivity
  factor_below (nullable r) t = unless (nullable r) t (with_null table t (factor_of table r t)) (marked r t (factor_of table r t) (factor_below r t))
