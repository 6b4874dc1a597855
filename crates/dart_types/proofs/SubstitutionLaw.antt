-- Subtyping holds of types with others within the bounds put in for their variables.
use Rattle.std.proofs.Common.{◌≡◌, ℕ, Bool, true, false, List, [], ◌∷◌, length, Some, sym, ◌∙◌, subst, cond, arith}
use Rattle.std.specs.Prelude.{◌||◌, unwrap_or}
use Rattle.dart_types.specs.Ty.{Ty, Types, Named, invalid, never, void, null, interface, function, variable, promoted, nullable, no_more, more, count, join}
use Rattle.dart_types.specs.Same.{same_var}
use Rattle.dart_types.specs.Substitution.{put, put_all, put_named, argument_of, by_params}
use Rattle.dart_types.specs.Tables.{Table}
use Rattle.dart_types.specs.WellFormed.{is_among, IsSimple, AreSimple, IsWellFormed}
use Rattle.dart_types.specs.Superinterfaces.{LeavesNothingOut}
use Rattle.dart_types.specs.Scope.{IsInScope, AreInScope, AreInScopeNamed, IsWithinBounds}
use Rattle.dart_types.specs.Sub.{Sub, Subs, SubParams, SubNamed, HasNamed, first, later, reflexivity, right_top, left_bottom, left_null, right_object, left_nullable, right_nullable, left_promoted_variable, left_promoted_type, right_promoted, left_variable_bound, interface_arguments, super_interface, function_class, function_types, left_top, none_left, one_left, no_param, one_param, no_name, one_name}
use Rattle.dart_types.specs.declared.ids.VarId.{VarId}
use Rattle.dart_types.proofs.Supers.{superinterface_simple, inherited}
use Rattle.dart_types.proofs.Transitive.{trans}
use Rattle.dart_types.proofs.Substitutes.{count-put_all, put_all-join, put_all-by_params, object_put, function_class_put, top_put, plain_put, has_put, required_in-put_named}

module _ (scope : List VarId) (σ : VarId → Ty) where
  -- an argument of a class is in scope where all are
  argument_in_scope : (ps : List VarId) (ss : Types) (x : VarId) → is_among ps x ≡ true → count ss ≡ length ps → AreInScope scope σ ss → IsInScope scope σ (by_params ps ss x)
  argument_in_scope [] ss x h k f = cc
  argument_in_scope (p ∷ ps) no_more x h k f = absurd (omega arith)
  argument_in_scope (p ∷ ps) (more s ss) x h k f = at (same_var p x) h (λ g. argument_in_scope ps ss x g (omega arith) f.1)
    where
      at : (b : Bool) → (b || is_among ps x) ≡ true → (is_among ps x ≡ true → IsInScope scope σ (by_params ps ss x)) → IsInScope scope σ (unwrap_or (cond b (Some s) (argument_of ps ss x)) (variable x))
      at true g go = f.0
      at false g go = go g

  -- so is a supertype with the arguments put in
  mutual
    super_in_scope : (ps : List VarId) (ss : Types) → count ss ≡ length ps → AreInScope scope σ ss → (v : Ty) → IsSimple ps v → IsInScope scope σ (put (by_params ps ss) v)
    super_in_scope ps ss k f invalid i = tt
    super_in_scope ps ss k f never i = tt
    super_in_scope ps ss k f void i = tt
    super_in_scope ps ss k f null i = tt
    super_in_scope ps ss k f (interface c ts) i = supers_in_scope ps ss k f ts i
    super_in_scope ps ss k f (function r o n e) i = absurd i
    super_in_scope ps ss k f (variable x) i = argument_in_scope ps ss x i k f
    super_in_scope ps ss k f (promoted x t) i = absurd i
    super_in_scope ps ss k f (nullable t) i = super_in_scope ps ss k f t i

    supers_in_scope : (ps : List VarId) (ss : Types) → count ss ≡ length ps → AreInScope scope σ ss → (vs : Types) → AreSimple ps vs → AreInScope scope σ (put_all (by_params ps ss) vs)
    supers_in_scope ps ss k f no_more i = tt
    supers_in_scope ps ss k f (more v vs) i = (super_in_scope ps ss k f v i.0, supers_in_scope ps ss k f vs i.1)

  join_in_scope : (ts us : Types) → AreInScope scope σ ts → AreInScope scope σ us → AreInScope scope σ (join ts us)
  join_in_scope no_more us f g = g
  join_in_scope (more t ts) us f g = (f.0, join_in_scope ts us f.1 g)

  named_in_scope : {ns : Named} {m : List ℕ} {t : Ty} → AreInScopeNamed scope σ ns → HasNamed ns m t → IsInScope scope σ t
  named_in_scope f first = f.0
  named_in_scope f (later h) = named_in_scope f.1 h

  module _ (table : Table) (wf : IsWellFormed table) (nothing : LeavesNothingOut table) (within : IsWithinBounds scope σ table) where
    mutual
      pub put_sub : {s t : Ty} → Sub table s t → IsInScope scope σ s → IsInScope scope σ t → Sub table (put σ s) (put σ t)
      put_sub reflexivity f g = reflexivity
      put_sub {t = t} (right_top e) f g = right_top (top_put σ t e)
      put_sub left_bottom f g = left_bottom
      put_sub left_null f g = left_null
      put_sub {s = s} {t = t} (right_object e p) f g = right_object (object_put σ t e) (plain_put σ s p)
      put_sub (left_nullable a b) f g = left_nullable (put_sub a f g) (put_sub b tt g)
      put_sub (right_nullable a) f g = right_nullable (put_sub a f g)
      put_sub {t = t} (left_promoted_variable a) f g = left_promoted_variable (subst (λ (k : Ty). Sub table k (put σ t)) f.1 (put_sub a f.0 g))
      put_sub (left_promoted_type a) f g = left_promoted_type (put_sub a f.2 g)
      put_sub {s = s} (right_promoted a b) f g = right_promoted (subst (λ (k : Ty). Sub table (put σ s) k) g.1 (put_sub a f g.0)) (put_sub b f g.2)
      put_sub {t = t} (left_variable_bound {x = x} b e a) f g =
          trans table wf nothing (put σ b) (σ x) (put σ t) (within.within x b f e) (put_sub a (within.closed x b f e) g)
      put_sub (interface_arguments a) f g = interface_arguments (put_subs a f g)
      put_sub (super_interface {ss = ss} {us = us} {ts = ts} row r n k a) f g =
          let simple = superinterface_simple table wf (inherited table wf k.0) row r in
          super_interface row r (count-put_all σ ss ∙ n) k
          (subst (λ (l : Types). Subs table l (put_all σ ts)) (sym (put_all-by_params σ row.params ss n us simple))
          (put_subs a (supers_in_scope row.params ss n f us simple) g))
      put_sub {t = t} (function_class e) f g = function_class (function_class_put σ t e)
      put_sub (function_types {r = r} {o = o} {r' = r'} {o' = o'} {n = n} {n' = n'} le qs ns h a) f g =
          function_types (omega (arith, count-put_all σ r, count-put_all σ r'))
          (subst (λ (k : Types). SubParams table k (join (put_all σ r) (put_all σ o))) (put_all-join σ r' o')
          (subst (λ (k : Types). SubParams table (put_all σ (join r' o')) k) (put_all-join σ r o)
          (put_params qs (join_in_scope r' o' g.0 g.1) (join_in_scope r o f.0 f.1))))
          (put_names ns g.2 f.2)
          (required_in-put_named σ n n' ∙ h)
          (put_sub a f.3 g.3)
      put_sub (left_top a) f g = left_top (put_sub a tt g)

      put_subs : {ss ts : Types} → Subs table ss ts → AreInScope scope σ ss → AreInScope scope σ ts → Subs table (put_all σ ss) (put_all σ ts)
      put_subs none_left f g = none_left
      put_subs (one_left a rest) f g = one_left (put_sub a f.0 g.0) (put_subs rest f.1 g.1)

      put_params : {ts ss : Types} → SubParams table ts ss → AreInScope scope σ ts → AreInScope scope σ ss → SubParams table (put_all σ ts) (put_all σ ss)
      put_params no_param f g = no_param
      put_params (one_param a rest) f g = one_param (put_sub a f.0 g.0) (put_params rest f.1 g.1)

      put_names : {ts ss : Named} → SubNamed table ts ss → AreInScopeNamed scope σ ts → AreInScopeNamed scope σ ss → SubNamed table (put_named σ ts) (put_named σ ss)
      put_names no_name f g = no_name
      put_names (one_name s h a rest) f g = one_name (put σ s) (has_put σ h) (put_sub a f.0 (named_in_scope g h)) (put_names rest f.1 g)
