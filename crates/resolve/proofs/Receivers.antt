-- The types whose members receivers have, step by step.
use Rattle.std.proofs.Common.{◌≡◌, ℕ, suc, ◌<◌, ◌≤◌, Bool, true, false, Option, Some, None, refl, sym, ◌∙◌, ap, subst, cond, arith}
use Rattle.dart_types.specs.Ty.{Ty, invalid, never, void, null, interface, function, variable, promoted, nullable}
use Rattle.dart_types.specs.Heads.{object}
use Rattle.dart_types.specs.Same.{same_type}
use Rattle.dart_types.specs.Tables.{Table, bound_of}
use Rattle.dart_types.specs.SubTest.{sub}
use Rattle.dart_types.specs.Measure.{weight_of}
use Rattle.dart_types.specs.Laws.{RowLaws}
use Rattle.dart_types.specs.declared.ids.VarId.{VarId}
use Rattle.type_bounds.specs.NonNull.{non_null_of, non_null_within, variable_without_null}
use Rattle.judgement.specs.Receivers.{member_step, member_type}
use Rattle.resolve.specs.Receivers.{HasMembersOf, HasMembersWithoutNullOf}

module _ (table : Table) (steps : (n : ℕ) (t : Ty) → weight_of table t ≤ n → non_null_within table n t ≡ non_null_of table t) where
  -- a type without null, by one step more than it weighs
  one_more : (t : Ty) → non_null_of table t ≡ non_null_within table (suc (weight_of table t)) t
  one_more t = sym (steps (suc (weight_of table t)) t (omega arith))

  -- Null is Never without null
  pub null_without : (t : Ty) → same_type t null ≡ true → member_type table never ≡ member_type table (non_null_of table t)
  null_without null e = ap (member_type table) (sym (one_more null))
  null_without invalid e = absurd cc
  null_without never e = absurd cc
  null_without void e = absurd cc
  null_without (interface c ts) e = absurd cc
  null_without (function r o n u) e = absurd cc
  null_without (variable x) e = absurd cc
  null_without (promoted x u) e = absurd cc
  null_without (nullable u) e = absurd cc

module _ (table : Table) where
  bare_weighs : (t : Ty) → weight_of table t < weight_of table (nullable t)
  unfolding weight_of
  bare_weighs t = omega arith

  promoted_weighs : (x : VarId) (t : Ty) → weight_of table t < weight_of table (promoted x t)
  unfolding weight_of
  promoted_weighs x t = omega arith

  module _ (laws : RowLaws table) (members : (t : Ty) → member_type table t ≡ member_step table (member_type table) t) where
    bound_weighs : (x : VarId) (b : Ty) → bound_of table x ≡ Some b → weight_of table b < weight_of table (variable x)
    bound_weighs x b e = omega (arith, laws.bound_weight x b e)

    pub promoted_members : (t : Ty) (x : VarId) (u : Ty) → t ≡ promoted x u → HasMembersOf table t (Some u)
    promoted_members t x u e = subst (λ (k : Ty). HasMembersOf table k (Some u)) (sym e) (promoted_weighs x u, members (promoted x u))

    module _ (steps : (n : ℕ) (t : Ty) → weight_of table t ≤ n → non_null_within table n t ≡ non_null_of table t) where
      nullable_by_step : (u : Ty) → HasMembersWithoutNullOf table (nullable u) (Some u)
      nullable_by_step u =
          (bare_weighs u, ap (member_type table) (one_more table steps (nullable u) ∙ steps (weight_of table (nullable u)) u (omega (arith, bare_weighs u))))

      pub nullable_without : (t u : Ty) → t ≡ nullable u → HasMembersWithoutNullOf table t (Some u)
      nullable_without t u e = subst (λ (k : Ty). HasMembersWithoutNullOf table k (Some u)) (sym e) (nullable_by_step u)

      promoted_by_step : (x : VarId) (u : Ty) → HasMembersWithoutNullOf table (promoted x u) (Some u)
      promoted_by_step x u =
          let lighter : non_null_within table (weight_of table (promoted x u)) u ≡ non_null_of table u = steps (weight_of table (promoted x u)) u (omega (arith, promoted_weighs x u)) in
          (promoted_weighs x u, ap (member_type table) (one_more table steps (promoted x u) ∙ ap (promoted x) lighter) ∙ members (promoted x (non_null_of table u)))

      pub promoted_without : (t : Ty) (x : VarId) (u : Ty) → t ≡ promoted x u → HasMembersWithoutNullOf table t (Some u)
      promoted_without t x u e = subst (λ (k : Ty). HasMembersWithoutNullOf table k (Some u)) (sym e) (promoted_by_step x u)

      -- a variable without null, by its bound
      by_bound : (x : VarId) (bound : Option Ty) → bound_of table x ≡ bound
          → non_null_of table (variable x) ≡ variable_without_null table (non_null_within table (weight_of table (variable x))) x bound
      by_bound x bound e = one_more table steps (variable x) ∙ ap (variable_without_null table (non_null_within table (weight_of table (variable x))) x) e

      pub unbound_without : (x : VarId) → bound_of table x ≡ None → HasMembersWithoutNullOf table (variable x) None
      unbound_without x e other = by_bound x None e

      pub object_without : (x : VarId) (b : Ty) → bound_of table x ≡ Some b → sub table b object ≡ true → HasMembersWithoutNullOf table (variable x) None
      object_without x b e below other =
          by_bound x (Some b) e ∙ ap (λ (q : Bool). cond q (variable x) (promoted x (non_null_within table (weight_of table (variable x)) b))) below

      pub bound_without : (x : VarId) (b : Ty) → bound_of table x ≡ Some b → sub table b object ≡ false → HasMembersWithoutNullOf table (variable x) (Some b)
      bound_without x b e above =
          let lighter : non_null_within table (weight_of table (variable x)) b ≡ non_null_of table b = steps (weight_of table (variable x)) b (omega (arith, bound_weighs x b e)) in
          let is : non_null_of table (variable x) ≡ promoted x (non_null_of table b) =
          by_bound x (Some b) e
          ∙ ap (λ (q : Bool). cond q (variable x) (promoted x (non_null_within table (weight_of table (variable x)) b))) above
          ∙ ap (promoted x) lighter
          in
          (bound_weighs x b e, ap (member_type table) is ∙ members (promoted x (non_null_of table b)))

      -- the other types are without null
      pub itself : (t k : Ty) → t ≡ k → non_null_within table (suc (weight_of table k)) k ≡ k → HasMembersWithoutNullOf table t None
      itself t k e same other = subst (λ (v : Ty). non_null_of table v ≡ v) (sym e) (one_more table steps k ∙ same)

      pub null_itself : (t : Ty) → t ≡ null → HasMembersWithoutNullOf table t None
      null_itself t e other = absurd (let is : same_type t null ≡ true = subst (λ (k : Ty). same_type k null ≡ true) (sym e) refl in cc)
