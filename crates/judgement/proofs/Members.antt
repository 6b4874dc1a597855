-- The type whose members one has, by one step from lighter types.
use Rattle.std.proofs.Common.{◌≡◌, ℕ, zero, suc, ◌<◌, ◌≤◌, Option, Some, None, refl, ◌∙◌, ap, arith}
use Rattle.std.specs.Option.{option_map_or}
use Rattle.dart_types.specs.Ty.{Ty, invalid, never, void, null, interface, function, variable, promoted, nullable}
use Rattle.dart_types.specs.Tables.{Table, bound_of}
use Rattle.dart_types.specs.Measure.{weight_of}
use Rattle.dart_types.specs.Laws.{RowLaws}
use Rattle.dart_types.specs.declared.ids.VarId.{VarId}
use Rattle.judgement.specs.Receivers.{member_step, member_type, member_type_within}

module _ (table : Table) (laws : RowLaws table) where
  some_weight : (t : Ty) → 0 < weight_of table t
  unfolding weight_of
  some_weight invalid = omega arith
  some_weight never = omega arith
  some_weight void = omega arith
  some_weight null = omega arith
  some_weight (interface c ts) = omega arith
  some_weight (function r o n e) = omega arith
  some_weight (variable x) = omega arith
  some_weight (promoted x t) = omega arith
  some_weight (nullable t) = omega arith

  promoted_weighs : (x : VarId) (t : Ty) → weight_of table t < weight_of table (promoted x t)
  unfolding weight_of
  promoted_weighs x t = omega arith

  bound_weighs : (x : VarId) (b : Ty) → bound_of table x ≡ Some b → weight_of table b < weight_of table (variable x)
  bound_weighs x b e = omega (arith, laws.bound_weight x b e)

  -- one step asks for lighter types alone
  step_same : (f g : Ty → Ty) (t : Ty) → ((u : Ty) → weight_of table u < weight_of table t → f u ≡ g u) → member_step table f t ≡ member_step table g t
  step_same f g invalid h = refl
  step_same f g never h = refl
  step_same f g void h = refl
  step_same f g null h = refl
  step_same f g (interface c ts) h = refl
  step_same f g (function r o n e) h = refl
  step_same f g (variable x) h = at (bound_of table x) refl
    where
      at : (o : Option Ty) → bound_of table x ≡ o → option_map_or f o (variable x) ≡ option_map_or g o (variable x)
      at None e = refl
      at (Some b) e = h b (bound_weighs x b e)
  step_same f g (promoted x u) h = h u (promoted_weighs x u)
  step_same f g (nullable u) h = refl

  -- more steps than the type weighs give the same
  more_steps : (n m : ℕ) (t : Ty) → weight_of table t ≤ n → weight_of table t ≤ m → member_type_within table n t ≡ member_type_within table m t
  more_steps zero m t le le' = absurd (omega (arith, some_weight t, le))
  more_steps (suc n) zero t le le' = absurd (omega (arith, some_weight t, le'))
  more_steps (suc n) (suc m) t le le' =
      step_same (member_type_within table n) (member_type_within table m) t
      (λ u lt. more_steps n m u (omega (arith, lt, le)) (omega (arith, lt, le')))

  pub member_by_step : (t : Ty) → member_type table t ≡ member_step table (member_type table) t
  unfolding member_type
  member_by_step t =
      more_steps (weight_of table t) (suc (weight_of table t)) t (omega arith) (omega arith)
      ∙ step_same (member_type_within table (weight_of table t)) (member_type table) t
      (λ u lt. more_steps (weight_of table t) (weight_of table u) u (omega (arith, lt)) (omega arith))
