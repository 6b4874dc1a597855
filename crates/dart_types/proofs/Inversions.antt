-- The rules read backwards, as the test of subtyping goes through them.
use Rattle.std.proofs.Common.{◌≡◌, Bool, true, false, Some, refl, sym, subst, inl, inr}
use Rattle.std.specs.Prelude.{◌⊎◌}
use Rattle.dart_types.specs.Ty.{Ty, Types, invalid, never, void, null, interface, function, variable, promoted, nullable}
use Rattle.dart_types.specs.Heads.{object, is_object, is_top, is_plain}
use Rattle.dart_types.specs.Tables.{Table, bound_of}
use Rattle.dart_types.specs.Targets.{is_bare_target, or_nullable}
use Rattle.dart_types.specs.WellFormed.{IsWellFormed}
use Rattle.dart_types.specs.Sub.{Sub, reflexivity, right_top, left_bottom, left_null, right_object, left_nullable, right_nullable, left_promoted_variable, left_promoted_type, right_promoted, left_variable_bound, interface_arguments, super_interface, function_class, left_top}
use Rattle.dart_types.specs.declared.ids.ClassId.{ClassId}
use Rattle.dart_types.specs.declared.ids.VarId.{VarId}
use Rattle.dart_types.proofs.Supers.{object_inherits}
use Rattle.dart_types.proofs.Above.{nullable_bare, nullable_null, void_top, object_args, class_of_object}

-- a type that is bare is no top type
pub bare_not_top : (t : Ty) → is_bare_target t ≡ true → is_top t ≡ true → ⊥
bare_not_top invalid h k = cc
bare_not_top never h k = cc
bare_not_top void h k = cc
bare_not_top null h k = cc
bare_not_top (interface c ts) h k = cc
bare_not_top (function r o n e) h k = cc
bare_not_top (variable x) h k = cc
bare_not_top (promoted x t) h k = cc
bare_not_top (nullable t) h k = cc

module _ (table : Table) where
  -- a promoted variable on the right
  pub promoted_parts : {x : VarId} {s w : Ty} → Sub table s (promoted x w) → Sub table s (variable x) × Sub table s w
  promoted_parts reflexivity = (left_promoted_variable reflexivity, left_promoted_type reflexivity)
  promoted_parts (right_top e) = cc
  promoted_parts left_bottom = (left_bottom, left_bottom)
  promoted_parts (right_object e p) = cc
  promoted_parts (left_nullable a b) = let p = promoted_parts a in let q = promoted_parts b in (left_nullable p.0 q.0, left_nullable p.1 q.1)
  promoted_parts (left_promoted_variable a) = let p = promoted_parts a in (left_promoted_variable p.0, left_promoted_variable p.1)
  promoted_parts (left_promoted_type a) = let p = promoted_parts a in (left_promoted_type p.0, left_promoted_type p.1)
  promoted_parts (right_promoted a b) = (a, b)
  promoted_parts (left_variable_bound b e a) = let p = promoted_parts a in (left_variable_bound b e p.0, left_variable_bound b e p.1)
  promoted_parts (function_class e) = cc
  promoted_parts (left_top a) = let p = promoted_parts a in (left_top p.0, left_top p.1)

  -- a nullable type on the left
  pub nullable_parts : {v t : Ty} → Sub table (nullable v) t → Sub table v t × Sub table null t
  nullable_parts a = (nullable_bare table a, nullable_null table a)

  -- Null on the left, and a bare type on the right
  null_bare : {t : Ty} → Sub table null t → is_bare_target t ≡ true → t ≡ null
  null_bare reflexivity h = refl
  null_bare {t} (right_top e) h = absurd (bare_not_top t h e)
  null_bare left_null h = cc
  null_bare (right_object e p) h = cc
  null_bare (right_nullable a) h = cc
  null_bare (right_promoted a b) h = cc

  pub null_target : (q : Bool) (t : Ty) → is_bare_target t ≡ true → Sub table null (or_nullable q t) → (q ≡ true) ⊎ (t ≡ null)
  null_target true t h a = inl refl
  null_target false t h a = inr (null_bare a h)

  pub target_null : (q : Bool) (t : Ty) → (q ≡ true) ⊎ (t ≡ null) → Sub table null (or_nullable q t)
  target_null true t (inl e) = left_null
  target_null false t (inl e) = cc
  target_null true t (inr e) = left_null
  target_null false t (inr e) = subst (λ (k : Ty). Sub table null k) (sym e) reflexivity

  -- s is a subtype of the target where it is one of the bare type
  pub into_target : (q : Bool) {s t : Ty} → Sub table s t → Sub table s (or_nullable q t)
  into_target true a = right_nullable a
  into_target false a = a

  -- the invalid type on the left
  invalid_bare : {t : Ty} → Sub table invalid t → is_bare_target t ≡ true → t ≡ invalid
  invalid_bare reflexivity h = refl
  invalid_bare {t} (right_top e) h = absurd (bare_not_top t h e)
  invalid_bare (right_object e p) h = cc
  invalid_bare (right_nullable a) h = cc
  invalid_bare (right_promoted a b) h = cc

  pub invalid_target : (q : Bool) (t : Ty) → is_bare_target t ≡ true → (q ≡ true → is_object t ≡ true → ⊥) → Sub table invalid (or_nullable q t) → t ≡ invalid
  invalid_target true t h no_top a = under a h (no_top refl)
    where
      under : {u : Ty} → Sub table invalid (nullable u) → is_bare_target u ≡ true → (is_object u ≡ true → ⊥) → u ≡ invalid
      under (right_top e) k n = absurd (n e)
      under (right_object e p) k n = cc
      under (right_nullable b) k n = invalid_bare b k
  invalid_target false t h no_top a = invalid_bare a h

  -- a type variable on the left
  var_bare : {x : VarId} {t : Ty} → Sub table (variable x) t → is_bare_target t ≡ true → (t ≡ variable x) ⊎ ((b : Ty) × (bound_of table x ≡ Some b) × Sub table b t)
  var_bare reflexivity h = inl refl
  var_bare {t = t} (right_top e) h = absurd (bare_not_top t h e)
  var_bare (right_object e p) h = cc
  var_bare (right_nullable a) h = cc
  var_bare (right_promoted a b) h = cc
  var_bare (left_variable_bound b e a) h = inr (b, e, a)

  pub var_target : (q : Bool) (x : VarId) (t : Ty) → is_bare_target t ≡ true → (q ≡ true → is_object t ≡ true → ⊥) → Sub table (variable x) (or_nullable q t) → (t ≡ variable x) ⊎ ((b : Ty) × (bound_of table x ≡ Some b) × Sub table b (or_nullable q t))
  var_target true x t h no_top a = under a h (no_top refl)
    where
      up : {u : Ty} → (u ≡ variable x) ⊎ ((b : Ty) × (bound_of table x ≡ Some b) × Sub table b u) → (u ≡ variable x) ⊎ ((b : Ty) × (bound_of table x ≡ Some b) × Sub table b (nullable u))
      up (inl e) = inl e
      up (inr k) = inr (k.0, k.1, right_nullable k.2)

      under : {u : Ty} → Sub table (variable x) (nullable u) → is_bare_target u ≡ true → (is_object u ≡ true → ⊥) → (u ≡ variable x) ⊎ ((b : Ty) × (bound_of table x ≡ Some b) × Sub table b (nullable u))
      under (right_top e) k n = absurd (n e)
      under (right_object e p) k n = cc
      under (right_nullable b) k n = up (var_bare b k)
      under (left_variable_bound b e c) k n = inr (b, e, c)
  var_target false x t h no_top a = var_bare a h

  -- a promoted variable on the left
  promoted_bare : {x : VarId} {w t : Ty} → Sub table (promoted x w) t → is_bare_target t ≡ true → Sub table (variable x) t ⊎ Sub table w t
  promoted_bare reflexivity h = cc
  promoted_bare {t = t} (right_top e) h = absurd (bare_not_top t h e)
  promoted_bare (right_object e p) h = cc
  promoted_bare (right_nullable a) h = cc
  promoted_bare (left_promoted_variable a) h = inl a
  promoted_bare (left_promoted_type a) h = inr a
  promoted_bare (right_promoted a b) h = cc

  pub promoted_target : (q : Bool) (x : VarId) (w t : Ty) → is_bare_target t ≡ true → (q ≡ true → is_object t ≡ true → ⊥) → Sub table (promoted x w) (or_nullable q t) → Sub table (variable x) (or_nullable q t) ⊎ Sub table w (or_nullable q t)
  promoted_target true x w t h no_top a = under a h (no_top refl)
    where
      up : {u : Ty} → Sub table (variable x) u ⊎ Sub table w u → Sub table (variable x) (nullable u) ⊎ Sub table w (nullable u)
      up (inl b) = inl (right_nullable b)
      up (inr b) = inr (right_nullable b)

      under : {u : Ty} → Sub table (promoted x w) (nullable u) → is_bare_target u ≡ true → (is_object u ≡ true → ⊥) → Sub table (variable x) (nullable u) ⊎ Sub table w (nullable u)
      under (right_top e) k n = absurd (n e)
      under (right_object e p) k n = cc
      under (right_nullable b) k n = up (promoted_bare b k)
      under (left_promoted_variable b) k n = inl b
      under (left_promoted_type b) k n = inr b
  promoted_target false x w t h no_top a = promoted_bare a h

  -- `(X & U)?` on the right
  pub var_nullable_promoted : {x y : VarId} {w : Ty} → Sub table (variable x) (nullable (promoted y w)) → Sub table (variable x) (promoted y w) ⊎ ((b : Ty) × (bound_of table x ≡ Some b) × Sub table b (nullable (promoted y w)))
  var_nullable_promoted (right_top e) = cc
  var_nullable_promoted (right_object e p) = cc
  var_nullable_promoted (right_nullable a) = inl a
  var_nullable_promoted (left_variable_bound b e a) = inr (b, e, a)

  pub promoted_nullable_promoted : {x y : VarId} {u w : Ty} → Sub table (promoted x u) (nullable (promoted y w)) → Sub table (promoted x u) (promoted y w) ⊎ (Sub table (variable x) (nullable (promoted y w)) ⊎ Sub table u (nullable (promoted y w)))
  promoted_nullable_promoted (right_top e) = cc
  promoted_nullable_promoted (right_object e p) = cc
  promoted_nullable_promoted (right_nullable a) = inl a
  promoted_nullable_promoted (left_promoted_variable a) = inr (inl a)
  promoted_nullable_promoted (left_promoted_type a) = inr (inr a)

  pub invalid_nullable_promoted : {y : VarId} {w : Ty} → Sub table invalid (nullable (promoted y w)) → ⊥
  invalid_nullable_promoted (right_top e) = cc
  invalid_nullable_promoted (right_object e p) = cc
  invalid_nullable_promoted (right_nullable a) = no_promoted a
    where
      no_var : {x : VarId} → Sub table invalid (variable x) → ⊥
      no_var (right_top e) = cc
      no_var (right_object e p) = cc

      no_promoted : {x : VarId} {u : Ty} → Sub table invalid (promoted x u) → ⊥
      no_promoted (right_top e) = cc
      no_promoted (right_object e p) = cc
      no_promoted (right_promoted b c) = no_var b

  -- a second `?` adds nothing
  module _ (wf : IsWellFormed table) where
    pub nullable_twice : {s u : Ty} → Sub table s (nullable (nullable u)) → Sub table s (nullable u)
    nullable_twice reflexivity = left_nullable reflexivity left_null
    nullable_twice (right_top e) = cc
    nullable_twice left_bottom = left_bottom
    nullable_twice left_null = left_null
    nullable_twice (right_object e p) = cc
    nullable_twice (left_nullable a b) = left_nullable (nullable_twice a) (nullable_twice b)
    nullable_twice (right_nullable a) = a
    nullable_twice (left_promoted_variable a) = left_promoted_variable (nullable_twice a)
    nullable_twice (left_promoted_type a) = left_promoted_type (nullable_twice a)
    nullable_twice (left_variable_bound b e a) = left_variable_bound b e (nullable_twice a)
    nullable_twice (function_class e) = cc
    nullable_twice (left_top a) = left_top (nullable_twice a)

    -- an interface or a function type is a subtype of `T?` only where it is one of T
    pub plain_nullable : {s u : Ty} → Sub table s (nullable u) → is_plain s ≡ true → Sub table s u
    plain_nullable reflexivity p = cc
    plain_nullable (right_top e) p = right_object e p
    plain_nullable left_bottom p = cc
    plain_nullable left_null p = cc
    plain_nullable (right_object e q) p = cc
    plain_nullable (left_nullable a b) p = cc
    plain_nullable (right_nullable a) p = a
    plain_nullable (left_promoted_variable a) p = cc
    plain_nullable (left_promoted_type a) p = cc
    plain_nullable (left_variable_bound b e a) p = cc
    plain_nullable (function_class e) p = cc
    plain_nullable (left_top a) p = cc

    pub plain_target : (q : Bool) {s t : Ty} → is_plain s ≡ true → Sub table s (or_nullable q t) → Sub table s t
    plain_target true p a = plain_nullable a p
    plain_target false p a = a

    -- an interface or a function type is no subtype of a variable
    pub plain_var : {s : Ty} {x : VarId} → Sub table s (variable x) → is_plain s ≡ true → ⊥
    plain_var reflexivity p = cc
    plain_var (right_top e) p = cc
    plain_var left_bottom p = cc
    plain_var (right_object e q) p = cc
    plain_var (left_nullable a b) p = cc
    plain_var (left_promoted_variable a) p = cc
    plain_var (left_promoted_type a) p = cc
    plain_var (left_variable_bound b e a) p = cc
    plain_var (function_class e) p = cc
    plain_var (left_top a) p = cc

    pub plain_nullable_promoted : {s w : Ty} {y : VarId} → is_plain s ≡ true → Sub table s (nullable (promoted y w)) → ⊥
    plain_nullable_promoted p a = plain_var (promoted_parts (plain_nullable a p)).0 p

    -- of the bare types only `Object` lies above `Object`
    object_only : {c : ClassId} {ss : Types} {u : Ty} → Sub table (interface c ss) u → is_object (interface c ss) ≡ true → is_bare_target u ≡ true → is_object u ≡ true
    object_only reflexivity o h = o
    object_only {u = u} (right_top e) o h = absurd (bare_not_top u h e)
    object_only (right_object e p) o h = e
    object_only (right_nullable a) o h = cc
    object_only (right_promoted a b) o h = cc
    object_only (interface_arguments {c = c} a) o h = object_args table c a o
    object_only (super_interface {c = c} {ss = ss} row r n k a) o h = object_inherits table wf (class_of_object c ss o) k.0

    -- void on the left
    object_bare : {t : Ty} → Sub table (nullable object) t → is_bare_target t ≡ true → ⊥
    object_bare {t} a h =
        let is : t ≡ null = null_bare (nullable_null table a) h in
        let k : is_object t ≡ true = object_only (nullable_bare table a) refl h in
        let l : is_object null ≡ true = subst (λ (u : Ty). is_object u ≡ true) is k in
        cc

    pub void_target : (q : Bool) (t : Ty) → is_bare_target t ≡ true → (q ≡ true → is_object t ≡ true → ⊥) → Sub table void (or_nullable q t) → ⊥
    void_target true t h no_top a = no_top refl (object_only (plain_nullable (nullable_bare table (void_top table a)) refl) refl h)
    void_target false t h no_top a = object_bare (void_top table a) h

    pub void_nullable_promoted : {y : VarId} {w : Ty} → Sub table void (nullable (promoted y w)) → ⊥
    void_nullable_promoted a = plain_nullable_promoted refl (nullable_bare table (void_top table a))

    -- everything is a subtype of `Object?`
    pub top_target : (t s : Ty) → is_object t ≡ true → Sub table s (nullable t)
    top_target t s h = right_top h
