-- Types put in before and after normal forms are taken.
use Rattle.std.proofs.Common.{◌≡◌, ◌≤◌, ◌+◌, List, refl, ◌∙◌, ap, arith}
use Rattle.dart_types.specs.Ty.{Ty, Types, Named, invalid, never, void, null, interface, function, variable, promoted, nullable, no_more, more, no_named, more_named}
use Rattle.dart_types.specs.Substitution.{put, put_all, put_named}
use Rattle.dart_types.specs.Normal.{nullable_of, normal, normal_all, normal_named}
use Rattle.dart_types.specs.Tables.{Table}
use Rattle.dart_types.specs.WellFormed.{IsSimple, AreSimple, IsWellFormed}
use Rattle.dart_types.specs.Measure.{VarMeasure, deep, deeps, heavy, heavies}
use Rattle.dart_types.specs.Sub.{Sub, reflexivity, left_bottom, left_nullable}
use Rattle.dart_types.specs.declared.ids.VarId.{VarId}
use Rattle.dart_types.proofs.Above.{nullable_bare, nullable_null, above_top}
use Rattle.dart_types.proofs.Transitive.{Moves, MovesAll, keep, step, in_nullable, in_interface, no_moves, one_move, moved}

-- `?` on a normal form of a type, with σ put in, has the normal form of `?` on the type with σ put in
nullable_put : (σ : VarId → Ty) (u : Ty) → normal (put σ (nullable_of u)) ≡ nullable_of (normal (put σ u))
nullable_put σ invalid = refl
nullable_put σ never = refl
nullable_put σ void = refl
nullable_put σ null = refl
nullable_put σ (interface c ts) = refl
nullable_put σ (function r o n e) = refl
nullable_put σ (variable x) = refl
nullable_put σ (promoted x t) = refl
nullable_put σ (nullable t) = twice (normal (put σ t))
  where
    twice : (u : Ty) → nullable_of u ≡ nullable_of (nullable_of u)
    twice invalid = refl
    twice never = refl
    twice void = refl
    twice null = refl
    twice (interface c ts) = refl
    twice (function r o n e) = refl
    twice (variable x) = refl
    twice (promoted x t) = refl
    twice (nullable t) = refl

-- a normal form that is taken before changes nothing
mutual
  pub normal-put-normal : (σ : VarId → Ty) (t : Ty) → normal (put σ (normal t)) ≡ normal (put σ t)
  normal-put-normal σ invalid = refl
  normal-put-normal σ never = refl
  normal-put-normal σ void = refl
  normal-put-normal σ null = refl
  normal-put-normal σ (interface c ts) = ap (interface c) (normal_all-put_all-normal_all σ ts)
  normal-put-normal σ (function r o n e) =
      let a = normal_all-put_all-normal_all σ r in
      let b = normal_all-put_all-normal_all σ o in
      let c = normal_named-put_named-normal_named σ n in
      let d = normal-put-normal σ e in
      cc
  normal-put-normal σ (variable x) = refl
  normal-put-normal σ (promoted x t) = ap (promoted x) (normal-put-normal σ t)
  normal-put-normal σ (nullable t) = nullable_put σ (normal t) ∙ ap nullable_of (normal-put-normal σ t)

  pub normal_all-put_all-normal_all : (σ : VarId → Ty) (ts : Types) → normal_all (put_all σ (normal_all ts)) ≡ normal_all (put_all σ ts)
  normal_all-put_all-normal_all σ no_more = refl
  normal_all-put_all-normal_all σ (more t ts) = let a = normal-put-normal σ t in let b = normal_all-put_all-normal_all σ ts in cc

  normal_named-put_named-normal_named : (σ : VarId → Ty) (ns : Named) → normal_named (put_named σ (normal_named ns)) ≡ normal_named (put_named σ ns)
  normal_named-put_named-normal_named σ no_named = refl
  normal_named-put_named-normal_named σ (more_named n r t ts) = let a = normal-put-normal σ t in let b = normal_named-put_named-normal_named σ ts in cc

module _ (table : Table) (wf : IsWellFormed table) (σ : VarId → Ty) where
  -- what is above t is above s
  by : {s t : Ty} → ((u : Ty) → Sub table t u → Sub table s u) → Moves table s t
  by {t = t} go = step (go t reflexivity) go

  -- `T?` where T moves to U, which is in normal form, with σ put in
  mark_to : {t : Ty} (u : Ty) → Moves table t (put σ u) → Moves table (nullable t) (put σ (nullable_of u))
  mark_to invalid m = in_nullable m
  mark_to never m = by (λ u h. left_nullable (moved table wf m left_bottom) h)
  mark_to void m = by (λ u h. left_nullable (moved table wf m h) (above_top table wf h refl null))
  mark_to null m = by (λ u h. left_nullable (moved table wf m h) h)
  mark_to (interface c ts) m = in_nullable m
  mark_to (function r o n e) m = in_nullable m
  mark_to (variable x) m = in_nullable m
  mark_to (promoted x u) m = in_nullable m
  mark_to (nullable u) m = by (λ v h. left_nullable (moved table wf m h) (nullable_null table h))

  mark_from : {t : Ty} (u : Ty) → Moves table (put σ u) t → Moves table (put σ (nullable_of u)) (nullable t)
  mark_from invalid m = in_nullable m
  mark_from never m = by (λ u h. nullable_null table h)
  mark_from void m = by (λ u h. moved table wf m (nullable_bare table h))
  mark_from null m = by (λ u h. nullable_null table h)
  mark_from (interface c ts) m = in_nullable m
  mark_from (function r o n e) m = in_nullable m
  mark_from (variable x) m = in_nullable m
  mark_from (promoted x u) m = in_nullable m
  mark_from (nullable u) m = by (λ v h. moved table wf m (nullable_bare table h))

  -- a simple type with σ put in moves to its normal form with σ put in, and back
  mutual
    to_normal : (vars : List VarId) (t : Ty) → IsSimple vars t → Moves table (put σ t) (put σ (normal t))
    to_normal vars invalid i = keep
    to_normal vars never i = keep
    to_normal vars void i = keep
    to_normal vars null i = keep
    to_normal vars (interface c ts) i = in_interface (all_to_normal vars ts i)
    to_normal vars (function r o n e) i = absurd i
    to_normal vars (variable x) i = keep
    to_normal vars (promoted x t) i = absurd i
    to_normal vars (nullable t) i = mark_to (normal t) (to_normal vars t i)

    pub all_to_normal : (vars : List VarId) (ts : Types) → AreSimple vars ts → MovesAll table (put_all σ ts) (put_all σ (normal_all ts))
    all_to_normal vars no_more i = no_moves
    all_to_normal vars (more t ts) i = one_move (to_normal vars t i.0) (all_to_normal vars ts i.1)

  mutual
    from_normal : (vars : List VarId) (t : Ty) → IsSimple vars t → Moves table (put σ (normal t)) (put σ t)
    from_normal vars invalid i = keep
    from_normal vars never i = keep
    from_normal vars void i = keep
    from_normal vars null i = keep
    from_normal vars (interface c ts) i = in_interface (all_from_normal vars ts i)
    from_normal vars (function r o n e) i = absurd i
    from_normal vars (variable x) i = keep
    from_normal vars (promoted x t) i = absurd i
    from_normal vars (nullable t) i = mark_from (normal t) (from_normal vars t i)

    pub all_from_normal : (vars : List VarId) (ts : Types) → AreSimple vars ts → MovesAll table (put_all σ (normal_all ts)) (put_all σ ts)
    all_from_normal vars no_more i = no_moves
    all_from_normal vars (more t ts) i = one_move (from_normal vars t i.0) (all_from_normal vars ts i.1)

-- the normal form of a simple type, with σ put in, measures no more
module _ (σ : VarId → Ty) (f : VarMeasure) where
  deep_nullable : (u : Ty) → deep f (put σ (nullable_of u)) ≤ deep f (put σ u) + 2
  deep_nullable invalid = omega arith
  deep_nullable never = omega arith
  deep_nullable void = omega arith
  deep_nullable null = omega arith
  deep_nullable (interface c ts) = omega arith
  deep_nullable (function r o n e) = omega arith
  deep_nullable (variable x) = omega arith
  deep_nullable (promoted x t) = omega arith
  deep_nullable (nullable t) = omega arith

  mutual
    pub deep_normal : (vars : List VarId) (t : Ty) → IsSimple vars t → deep f (put σ (normal t)) ≤ deep f (put σ t)
    deep_normal vars invalid i = omega arith
    deep_normal vars never i = omega arith
    deep_normal vars void i = omega arith
    deep_normal vars null i = omega arith
    deep_normal vars (interface c ts) i = omega (arith, deeps_normal vars ts i)
    deep_normal vars (function r o n e) i = absurd i
    deep_normal vars (variable x) i = omega arith
    deep_normal vars (promoted x t) i = absurd i
    deep_normal vars (nullable t) i = omega (arith, deep_normal vars t i, deep_nullable (normal t))

    deeps_normal : (vars : List VarId) (ts : Types) → AreSimple vars ts → deeps f (put_all σ (normal_all ts)) ≤ deeps f (put_all σ ts)
    deeps_normal vars no_more i = omega arith
    deeps_normal vars (more t ts) i = omega (arith, deep_normal vars t i.0, deeps_normal vars ts i.1)

  module _ (w : VarMeasure) where
    heavy_nullable : (u : Ty) → heavy w f (put σ (nullable_of u)) ≤ heavy w f (put σ u)
    heavy_nullable invalid = omega arith
    heavy_nullable never = omega arith
    heavy_nullable void = omega arith
    heavy_nullable null = omega arith
    heavy_nullable (interface c ts) = omega arith
    heavy_nullable (function r o n e) = omega arith
    heavy_nullable (variable x) = omega arith
    heavy_nullable (promoted x t) = omega arith
    heavy_nullable (nullable t) = omega arith

    mutual
      pub heavy_normal : (vars : List VarId) (t : Ty) → IsSimple vars t → heavy w f (put σ (normal t)) ≤ heavy w f (put σ t)
      heavy_normal vars invalid i = omega arith
      heavy_normal vars never i = omega arith
      heavy_normal vars void i = omega arith
      heavy_normal vars null i = omega arith
      heavy_normal vars (interface c ts) i = heavies_normal vars ts i
      heavy_normal vars (function r o n e) i = absurd i
      heavy_normal vars (variable x) i = omega arith
      heavy_normal vars (promoted x t) i = absurd i
      heavy_normal vars (nullable t) i = omega (arith, heavy_normal vars t i, heavy_nullable (normal t))

      heavies_normal : (vars : List VarId) (ts : Types) → AreSimple vars ts → heavies w f (put_all σ (normal_all ts)) ≤ heavies w f (put_all σ ts)
      heavies_normal vars no_more i = omega arith
      heavies_normal vars (more t ts) i = omega (arith, heavy_normal vars t i.0, heavies_normal vars ts i.1)
