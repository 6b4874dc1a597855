-- Null is a value of a type without null where that is `void` alone.
use Rattle.std.proofs.Common.{◌≡◌, ℕ, zero, suc, ◌<◌, ◌≤◌, Bool, true, false, Option, Some, None, refl, sym, ap, subst, cond, arith, inl, inr}
use Rattle.std.specs.Prelude.{◌⊎◌, ◌↔◌}
use Rattle.dart_types.specs.Ty.{Ty, invalid, never, void, null, interface, function, variable, promoted, nullable}
use Rattle.dart_types.specs.Heads.{object}
use Rattle.dart_types.specs.Marks.{is_marked}
use Rattle.dart_types.specs.Normal.{nullable_of, normal}
use Rattle.dart_types.specs.Sub.{Sub, right_top, right_object, right_promoted}
use Rattle.dart_types.specs.SubTest.{sub, is_null}
use Rattle.dart_types.specs.Tables.{Table, bound_of}
use Rattle.dart_types.specs.Measure.{weight_of}
use Rattle.dart_types.specs.Laws.{RowLaws}
use Rattle.type_bounds.specs.NonNull.{non_null_of, variable_without_null, without_null}
use Rattle.type_bounds.proofs.NonNulls.{bare_weighs, some_weight, non_null_step}

module _ (table : Table) where
  -- null is a value of `void`, of `Null` and of types with `?`, and of no others
  abbrev HasNull : Ty → Type 0
  HasNull t = (t ≡ void) ⊎ ((is_null t ≡ true) ⊎ (is_marked t ≡ true))

  null_in : (t : Ty) → Sub table null t → HasNull t
  null_in invalid (right_top e) = cc
  null_in invalid (right_object e p) = cc
  null_in never (right_top e) = cc
  null_in never (right_object e p) = cc
  null_in void a = inl refl
  null_in null a = inr (inl refl)
  null_in (interface c ts) (right_top e) = cc
  null_in (interface c ts) (right_object e p) = cc
  null_in (function r o n u) (right_top e) = cc
  null_in (function r o n u) (right_object e p) = cc
  null_in (variable x) (right_top e) = cc
  null_in (variable x) (right_object e p) = cc
  null_in (promoted x t) (right_top e) = cc
  null_in (promoted x t) (right_object e p) = cc
  null_in (promoted x t) (right_promoted a b) = elim (null_in (variable x) a) as (λ _. HasNull (promoted x t)) [
    | inl e ↦ cc
    | inr k ↦ elim k as (λ _. HasNull (promoted x t)) [
      | inl e ↦ cc
      | inr e ↦ cc
    ]
  ]
  null_in (nullable t) a = inr (inr refl)

  -- the type is neither `Null` nor one with `?`, and it is `void` where the other is
  record IsFree (w t : Ty) : Type 0 where
    no_null : is_null w ≡ false
    unmarked : is_marked w ≡ false
    from_void : normal t ≡ void → w ≡ void
    to_void : w ≡ void → normal t ≡ void

  marked_void : (w : Ty) → nullable_of w ≡ void → w ≡ void
  marked_void invalid e = cc
  marked_void never e = cc
  marked_void void e = refl
  marked_void null e = cc
  marked_void (interface c ts) e = cc
  marked_void (function r o n u) e = cc
  marked_void (variable x) e = cc
  marked_void (promoted x t) e = cc
  marked_void (nullable t) e = cc

  -- types that are neither
  other : (w t : Ty) → is_null w ≡ false → is_marked w ≡ false → (w ≡ void → ⊥) → (normal t ≡ void → ⊥) → IsFree w t
  other w t h k n m = record { no_null = h; unmarked = k; from_void = λ e. absurd (m e); to_void = λ e. absurd (n e) }

  module _ (laws : RowLaws table) where
    -- by one step from lighter types
    free_step : (t : Ty) → ((u : Ty) → weight_of table u < weight_of table t → IsFree (non_null_of table u) u) → IsFree (without_null table (non_null_of table) t) t
    free_step invalid h = other invalid invalid refl refl (λ e. cc) (λ e. cc)
    free_step never h = other never never refl refl (λ e. cc) (λ e. cc)
    free_step void h = record { no_null = refl; unmarked = refl; from_void = λ e. refl; to_void = λ e. refl }
    free_step null h = other never null refl refl (λ e. cc) (λ e. cc)
    free_step (interface c ts) h = other (interface c ts) (interface c ts) refl refl (λ e. cc) (λ e. cc)
    free_step (function r o l u) h = other (function r o l u) (function r o l u) refl refl (λ e. cc) (λ e. cc)
    free_step (variable x) h = at (bound_of table x)
      where
        chosen : (b : Bool) (u : Ty) → IsFree (cond b (variable x) (promoted x u)) (variable x)
        chosen true u = other (variable x) (variable x) refl refl (λ e. cc) (λ e. cc)
        chosen false u = other (promoted x u) (variable x) refl refl (λ e. cc) (λ e. cc)

        at : (o : Option Ty) → IsFree (variable_without_null table (non_null_of table) x o) (variable x)
        at None = other (variable x) (variable x) refl refl (λ e. cc) (λ e. cc)
        at (Some b) = chosen (sub table b object) (non_null_of table b)
    free_step (promoted x u) h = other (promoted x (non_null_of table u)) (promoted x u) refl refl (λ e. cc) (λ e. cc)
    free_step (nullable u) h =
        let k = h u (bare_weighs table u) in
        record { no_null = k.no_null; unmarked = k.unmarked; from_void = λ e. k.from_void (marked_void (normal u) e); to_void = λ e. ap nullable_of (k.to_void e) }

    free : (n : ℕ) (t : Ty) → weight_of table t ≤ n → IsFree (non_null_of table t) t
    free zero t le = absurd (omega (arith, some_weight table t, le))
    free (suc n) t le = subst (λ (w : Ty). IsFree w t) (sym (non_null_step table laws t)) (free_step t (λ u lt. free n u (omega (arith, lt, le))))

    pub null_without_null : (t : Ty) → Sub table null (non_null_of table t) ↔ (normal t ≡ void)
    null_without_null t =
        let h = free (weight_of table t) t (omega arith) in (
          λ a. elim (null_in (non_null_of table t) a) as (λ _. normal t ≡ void) [
            | inl e ↦ h.to_void e
            | inr k ↦ elim k as (λ _. normal t ≡ void) [
              | inl e ↦ let f = h.no_null in cc
              | inr e ↦ let f = h.unmarked in cc
            ]
          ],
          λ e. subst (Sub table null) (sym (h.from_void e)) (right_top refl),
        )
