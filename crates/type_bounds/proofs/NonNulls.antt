-- A type without null.
use Rattle.std.proofs.Common.{◌≡◌, ℕ, zero, suc, ◌<◌, ◌≤◌, Bool, true, false, Option, Some, None, refl, sym, ◌∙◌, ap, subst, cond, arith}
use Rattle.dart_types.specs.Ty.{Ty, Types, Named, invalid, never, void, null, interface, function, variable, promoted, nullable}
use Rattle.dart_types.specs.Heads.{object}
use Rattle.dart_types.specs.Tables.{Table, bound_of}
use Rattle.dart_types.specs.Sub.{Sub, reflexivity, left_bottom, right_nullable, left_promoted_variable, left_promoted_type, right_promoted}
use Rattle.dart_types.specs.SubTest.{sub}
use Rattle.dart_types.specs.Measure.{weight_of}
use Rattle.dart_types.specs.declared.ids.ClassId.{ClassId}
use Rattle.dart_types.specs.declared.ids.VarId.{VarId}
use Rattle.dart_types.specs.Laws.{RowLaws}
use Rattle.type_bounds.specs.NonNull.{variable_without_null, without_null, non_null_within, non_null_of}

module _ (table : Table) where
  -- each type has a node
  pub some_weight : (t : Ty) → 0 < weight_of table t
  unfolding weight_of
  some_weight invalid = omega arith
  some_weight never = omega arith
  some_weight void = omega arith
  some_weight null = omega arith
  some_weight (interface c ts) = omega arith
  some_weight (function r o n e) = omega arith
  some_weight (variable x) = omega arith
  some_weight (promoted x t) = omega arith
  some_weight (nullable t) = omega arith

  pub bare_weighs : (t : Ty) → weight_of table t < weight_of table (nullable t)
  unfolding weight_of
  bare_weighs t = omega arith

  pub promoted_weighs : (x : VarId) (t : Ty) → weight_of table t < weight_of table (promoted x t)
  unfolding weight_of
  promoted_weighs x t = omega arith

  -- whatever is without null below is a subtype
  step_below : (below : Ty → Ty) → ((t : Ty) → Sub table (below t) t) → (t : Ty) → Sub table (without_null table below t) t
  step_below below h invalid = reflexivity
  step_below below h never = reflexivity
  step_below below h void = reflexivity
  step_below below h null = left_bottom
  step_below below h (interface c ts) = reflexivity
  step_below below h (function r o n e) = reflexivity
  step_below below h (variable x) = at (bound_of table x)
    where
      chosen : (b : Ty) (q : Bool) → Sub table (cond q (variable x) (promoted x (below b))) (variable x)
      chosen b true = reflexivity
      chosen b false = left_promoted_variable reflexivity

      at : (o : Option Ty) → Sub table (variable_without_null table below x o) (variable x)
      at None = reflexivity
      at (Some b) = chosen b (sub table b object)
  step_below below h (promoted x u) = right_promoted (left_promoted_variable reflexivity) (left_promoted_type (h u))
  step_below below h (nullable u) = right_nullable (h u)

  within_below : (n : ℕ) (t : Ty) → Sub table (non_null_within table n t) t
  within_below zero t = reflexivity
  within_below (suc n) t = step_below (non_null_within table n) (within_below n) t

  -- a type without null is a subtype of the type
  pub non_null_below : (t : Ty) → Sub table (non_null_of table t) t
  unfolding non_null_of
  non_null_below t = within_below (weight_of table t) t

  module _ (laws : RowLaws table) where
    pub bound_weighs : (x : VarId) (b : Ty) → bound_of table x ≡ Some b → weight_of table b < weight_of table (variable x)
    unfolding weight_of
    bound_weighs x b e = omega (arith, laws.bound_weight x b e)

    -- one step asks for lighter types alone
    step_same : (f g : Ty → Ty) (t : Ty) → ((u : Ty) → weight_of table u < weight_of table t → f u ≡ g u) → without_null table f t ≡ without_null table g t
    step_same f g invalid h = refl
    step_same f g never h = refl
    step_same f g void h = refl
    step_same f g null h = refl
    step_same f g (interface c ts) h = refl
    step_same f g (function r o n e) h = refl
    step_same f g (variable x) h = at (bound_of table x) refl
      where
        at : (o : Option Ty) → bound_of table x ≡ o → variable_without_null table f x o ≡ variable_without_null table g x o
        at None e = refl
        at (Some b) e = ap (λ (u : Ty). cond (sub table b object) (variable x) (promoted x u)) (h b (bound_weighs x b e))
    step_same f g (promoted x u) h = ap (promoted x) (h u (promoted_weighs x u))
    step_same f g (nullable u) h = h u (bare_weighs u)

    -- so many steps as a type weighs are enough: more give the same
    pub more_steps : (n m : ℕ) (t : Ty) → weight_of table t ≤ n → weight_of table t ≤ m → non_null_within table n t ≡ non_null_within table m t
    more_steps zero m t a b = absurd (omega (arith, some_weight t))
    more_steps (suc n) zero t a b = absurd (omega (arith, some_weight t))
    more_steps (suc n) (suc m) t a b =
        step_same (non_null_within table n) (non_null_within table m) t (λ u lt. more_steps n m u (omega (arith, lt, a)) (omega (arith, lt, b)))

    stepped : (n : ℕ) (t : Ty) → weight_of table t ≡ n → non_null_within table n t ≡ without_null table (non_null_of table) t
    unfolding non_null_of
    stepped zero t e = absurd (omega (arith, some_weight t, e))
    stepped (suc n) t e =
        step_same (non_null_within table n) (non_null_of table) t (λ u lt. more_steps n (weight_of table u) u (omega (arith, lt, e)) (omega arith))

    -- by one step from lighter types
    pub non_null_step : (t : Ty) → non_null_of table t ≡ without_null table (non_null_of table) t
    unfolding non_null_of
    non_null_step t = stepped (weight_of table t) t refl

    pub null_is : (t : Ty) → t ≡ null → non_null_of table t ≡ never
    null_is t e = ap (non_null_of table) e ∙ non_null_step null

    pub nullable_is : (t u : Ty) → t ≡ nullable u → (weight_of table u < weight_of table t) × (non_null_of table t ≡ non_null_of table u)
    nullable_is t u e =
        subst (λ (k : Ty). (weight_of table u < weight_of table k) × (non_null_of table k ≡ non_null_of table u)) (sym e) (bare_weighs u, non_null_step (nullable u))

    pub promoted_is : (t : Ty) (x : VarId) (u : Ty) → t ≡ promoted x u → (weight_of table u < weight_of table t) × (non_null_of table t ≡ promoted x (non_null_of table u))
    promoted_is t x u e =
        subst (λ (k : Ty). (weight_of table u < weight_of table k) × (non_null_of table k ≡ promoted x (non_null_of table u))) (sym e) (promoted_weighs x u, non_null_step (promoted x u))

    pub invalid_stays : (t : Ty) → t ≡ invalid → non_null_of table t ≡ t
    invalid_stays t e = subst (λ (k : Ty). non_null_of table k ≡ k) (sym e) (non_null_step invalid)

    pub never_stays : (t : Ty) → t ≡ never → non_null_of table t ≡ t
    never_stays t e = subst (λ (k : Ty). non_null_of table k ≡ k) (sym e) (non_null_step never)

    pub void_stays : (t : Ty) → t ≡ void → non_null_of table t ≡ t
    void_stays t e = subst (λ (k : Ty). non_null_of table k ≡ k) (sym e) (non_null_step void)

    pub interface_stays : (t : Ty) (c : ClassId) (ts : Types) → t ≡ interface c ts → non_null_of table t ≡ t
    interface_stays t c ts e = subst (λ (k : Ty). non_null_of table k ≡ k) (sym e) (non_null_step (interface c ts))

    pub function_stays : (t : Ty) (r o : Types) (n : Named) (u : Ty) → t ≡ function r o n u → non_null_of table t ≡ t
    function_stays t r o n u e = subst (λ (k : Ty). non_null_of table k ≡ k) (sym e) (non_null_step (function r o n u))

    -- a variable whose bound is without null
    pub bound_without_null : (x : VarId) (b : Ty) → bound_of table x ≡ Some b → sub table b object ≡ true → non_null_of table (variable x) ≡ variable x
    bound_without_null x b e h =
        non_null_step (variable x)
        ∙ ap (variable_without_null table (non_null_of table) x) e
        ∙ ap (λ (q : Bool). cond q (variable x) (promoted x (non_null_of table b))) h

    -- one without a row
    pub no_bound : (x : VarId) → bound_of table x ≡ None → non_null_of table (variable x) ≡ variable x
    no_bound x e = non_null_step (variable x) ∙ ap (variable_without_null table (non_null_of table) x) e

    -- one whose bound has null
    pub bound_with_null : (x : VarId) (b : Ty) → bound_of table x ≡ Some b → sub table b object ≡ false → non_null_of table (variable x) ≡ promoted x (non_null_of table b)
    bound_with_null x b e h =
        non_null_step (variable x)
        ∙ ap (variable_without_null table (non_null_of table) x) e
        ∙ ap (λ (q : Bool). cond q (variable x) (promoted x (non_null_of table b))) h

    -- so many steps as a type weighs, or more, give the type without null
    pub non_null_steps : (n : ℕ) (t : Ty) → weight_of table t ≤ n → non_null_within table n t ≡ non_null_of table t
    unfolding non_null_of
    non_null_steps n t le = more_steps n (weight_of table t) t le (omega arith)
