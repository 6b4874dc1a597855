-- What lies above Null, Object and Function.
use Rattle.std.proofs.Common.{◌≡◌, true, refl, sym, subst}
use Rattle.dart_types.specs.Ty.{Ty, Types, Named, invalid, never, void, null, interface, function, variable, promoted, nullable, no_more, more}
use Rattle.dart_types.specs.Heads.{object, is_object, is_function_class, is_top, is_plain}
use Rattle.dart_types.specs.Substitution.{put, by_params}
use Rattle.dart_types.specs.Tables.{Table}
use Rattle.dart_types.specs.Superinterfaces.{Inherits}
use Rattle.dart_types.specs.WellFormed.{IsWellFormed}
use Rattle.dart_types.specs.Sub.{Sub, Subs, reflexivity, right_top, left_null, right_object, left_nullable, right_nullable, right_promoted, interface_arguments, super_interface, function_class, left_top, none_left, one_left}
use Rattle.dart_types.specs.declared.ids.ClassId.{ClassId}
use Rattle.dart_types.specs.declared.ids.VarId.{VarId}
use Rattle.dart_types.specs.declared.ids.TheConstants.{OBJECT, FUNCTION}
use Rattle.dart_types.proofs.SameIds.{equal_from_same_class}
use Rattle.dart_types.proofs.Supers.{object_inherits, function_inherits}

-- the class of `Object` is OBJECT
pub class_of_object : (c : ClassId) (ss : Types) → is_object (interface c ss) ≡ true → c ≡ OBJECT
class_of_object c no_more h = equal_from_same_class c OBJECT h
class_of_object c (more s ss) h = cc

-- the class of `Function` is FUNCTION
pub class_of_function : (c : ClassId) (ss : Types) → is_function_class (interface c ss) ≡ true → c ≡ FUNCTION
class_of_function c no_more h = equal_from_same_class c FUNCTION h
class_of_function c (more s ss) h = cc

object_not_top : (t : Ty) → is_object t ≡ true → is_top t ≡ true → ⊥
object_not_top invalid a b = cc
object_not_top never a b = cc
object_not_top void a b = cc
object_not_top null a b = cc
object_not_top (interface c ss) a b = cc
object_not_top (function r o n e) a b = cc
object_not_top (variable x) a b = cc
object_not_top (promoted x e) a b = cc
object_not_top (nullable e) a b = cc

module _ (table : Table) where
  pub nullable_bare : {v t : Ty} → Sub table (nullable v) t → Sub table v t
  nullable_bare reflexivity = right_nullable reflexivity
  nullable_bare (right_top e) = right_top e
  nullable_bare (right_object e p) = cc
  nullable_bare (left_nullable a b) = a
  nullable_bare (right_nullable a) = right_nullable (nullable_bare a)
  nullable_bare (right_promoted a b) = right_promoted (nullable_bare a) (nullable_bare b)

  pub nullable_null : {v t : Ty} → Sub table (nullable v) t → Sub table null t
  nullable_null reflexivity = left_null
  nullable_null (right_top e) = right_top e
  nullable_null (right_object e p) = cc
  nullable_null (left_nullable a b) = b
  nullable_null (right_nullable a) = right_nullable (nullable_null a)
  nullable_null (right_promoted a b) = right_promoted (nullable_null a) (nullable_null b)

  pub void_top : {t : Ty} → Sub table void t → Sub table (nullable object) t
  void_top reflexivity = right_top refl
  void_top (right_top e) = right_top e
  void_top (right_object e p) = cc
  void_top (right_nullable a) = right_nullable (void_top a)
  void_top (right_promoted a b) = right_promoted (void_top a) (void_top b)
  void_top (left_top a) = a

  pub object_args : (c : ClassId) {ss ts : Types} → Subs table ss ts → is_object (interface c ss) ≡ true → is_object (interface c ts) ≡ true
  object_args c none_left h = h
  object_args c (one_left a rest) h = cc

  null_interface : {c : ClassId} {ss : Types} → Sub table null (interface c ss) → ⊥
  null_interface (right_top e) = cc
  null_interface (right_object e p) = cc

  null_object : {t : Ty} → Sub table null t → is_object t ≡ true → ⊥
  null_object reflexivity h = cc
  null_object {t} (right_top e) h = object_not_top t h e
  null_object left_null h = cc
  null_object (right_object e p) h = cc
  null_object (right_nullable a) h = cc
  null_object (right_promoted a b) h = cc

  null_promoted : {x : VarId} {w : Ty} → Sub table null (promoted x w) → Sub table null (variable x) × Sub table null w
  null_promoted (right_top e) = cc
  null_promoted (right_object e p) = cc
  null_promoted (right_promoted a b) = (a, b)

  module _ (wf : IsWellFormed table) where
    none_inherited : {A : Type 0} (c : ClassId) (ss : Types) {v : Ty} → is_object (interface c ss) ≡ true → Inherits table c v → A
    none_inherited c ss h q = object_inherits table wf (class_of_object c ss h) q

    object_var : {c : ClassId} {ss : Types} {x : VarId} → is_object (interface c ss) ≡ true → Sub table (interface c ss) (variable x) → ⊥
    object_var h (right_top e) = cc
    object_var h (right_object e p) = cc

    -- what is above Object is above each interface and function type
    pub above_object : {c : ClassId} {ss : Types} {t : Ty} → Sub table (interface c ss) t → is_object (interface c ss) ≡ true → (s : Ty) → is_plain s ≡ true → Sub table s t
    above_object reflexivity h s p = right_object h p
    above_object (right_top e) h s p = right_top e
    above_object (right_object e q) h s p = right_object e p
    above_object (right_nullable a) h s p = right_nullable (above_object a h s p)
    above_object (right_promoted a b) h s p = right_promoted (above_object a h s p) (above_object b h s p)
    above_object (interface_arguments {c = c} a) h s p = right_object (object_args c a h) p
    above_object (super_interface {c = c} {ss = ss} row r n k a) h s p = none_inherited c ss h k.0

    -- with Null too it is above all
    pub nullable_above : {c : ClassId} {ss : Types} {t : Ty} → Sub table (interface c ss) t → is_object (interface c ss) ≡ true → (s : Ty) → Sub table s (nullable t)
    nullable_above reflexivity h s = right_top h
    nullable_above (right_top e) h s = right_nullable (right_top e)
    nullable_above (right_object e q) h s = right_top e
    nullable_above (right_nullable a) h s = right_nullable (nullable_above a h s)
    nullable_above (right_promoted a b) h s = absurd (object_var h a)
    nullable_above (interface_arguments {c = c} a) h s = right_top (object_args c a h)
    nullable_above (super_interface {c = c} {ss = ss} row r n k a) h s = none_inherited c ss h k.0

    both_above : {c : ClassId} {ss : Types} {t : Ty} → Sub table (interface c ss) t → is_object (interface c ss) ≡ true → Sub table null t → (s : Ty) → Sub table s t
    both_above reflexivity h b s = absurd (null_interface b)
    both_above (right_top e) h b s = right_top e
    both_above (right_object e q) h b s = absurd (null_object b e)
    both_above (right_nullable a) h b s = nullable_above a h s
    both_above (right_promoted a1 a2) h b s = absurd (object_var h a1)
    both_above (interface_arguments a) h b s = absurd (null_interface b)
    both_above (super_interface {c = c} {ss = ss} row r n k a) h b s = none_inherited c ss h k.0

    object_then : {o t : Ty} → Sub table o t → is_object o ≡ true → Sub table null t → (s : Ty) → Sub table s t
    object_then {o = invalid} a h b s = cc
    object_then {o = never} a h b s = cc
    object_then {o = void} a h b s = cc
    object_then {o = null} a h b s = cc
    object_then {o = interface c ss} a h b s = both_above a h b s
    object_then {o = function r o n e} a h b s = cc
    object_then {o = variable x} a h b s = cc
    object_then {o = promoted x e} a h b s = cc
    object_then {o = nullable e} a h b s = cc

    pub plain_then : {o t : Ty} → Sub table o t → is_object o ≡ true → (s : Ty) → is_plain s ≡ true → Sub table s t
    plain_then {o = invalid} a h s p = cc
    plain_then {o = never} a h s p = cc
    plain_then {o = void} a h s p = cc
    plain_then {o = null} a h s p = cc
    plain_then {o = interface c ss} a h s p = above_object a h s p
    plain_then {o = function r o n e} a h s p = cc
    plain_then {o = variable x} a h s p = cc
    plain_then {o = promoted x e} a h s p = cc
    plain_then {o = nullable e} a h s p = cc

    any_above : {o t : Ty} → Sub table (nullable o) t → is_object o ≡ true → (s : Ty) → Sub table s t
    any_above reflexivity h s = right_top h
    any_above (right_top e) h s = right_top e
    any_above (right_object e p) h s = cc
    any_above (left_nullable a b) h s = object_then a h b s
    any_above (right_nullable a) h s = right_nullable (any_above a h s)
    any_above (right_promoted a b) h s = right_promoted (any_above a h s) (any_above b h s)

    -- what is above Object? or void is above all
    pub above_top : {o t : Ty} → Sub table o t → is_top o ≡ true → (s : Ty) → Sub table s t
    above_top {o = invalid} a h s = cc
    above_top {o = never} a h s = cc
    above_top {o = void} a h s = any_above (void_top a) refl s
    above_top {o = null} a h s = cc
    above_top {o = interface c ss} a h s = cc
    above_top {o = function r o n e} a h s = cc
    above_top {o = variable x} a h s = cc
    above_top {o = promoted x e} a h s = cc
    above_top {o = nullable e} a h s = any_above a h s

    function_args : (c : ClassId) {ss ts : Types} → Subs table ss ts → is_function_class (interface c ss) ≡ true → is_function_class (interface c ts) ≡ true
    function_args c none_left h = h
    function_args c (one_left a rest) h = cc

    -- what is above Function is above each function type
    above_class : {c : ClassId} {ss : Types} {t : Ty} → Sub table (interface c ss) t → is_function_class (interface c ss) ≡ true → (r o : Types) (n : Named) (e : Ty) → Sub table (function r o n e) t
    above_class reflexivity h r o n e = function_class h
    above_class (right_top k) h r o n e = right_top k
    above_class (right_object k q) h r o n e = right_object k refl
    above_class (right_nullable a) h r o n e = right_nullable (above_class a h r o n e)
    above_class (right_promoted a b) h r o n e = right_promoted (above_class a h r o n e) (above_class b h r o n e)
    above_class (interface_arguments {c = c} a) h r o n e = function_class (function_args c a h)
    above_class (super_interface {c = c} {d = d} {ss = ss} {us = us} row r m k a) h f o n e =
        let is : interface d us ≡ object = function_inherits table wf (class_of_function c ss h) k.0 in
        right_object (object_args d a (subst (λ (w : Ty). is_object (put (by_params row.params ss) w) ≡ true) (sym is) refl)) refl

    pub above_function : {f t : Ty} → Sub table f t → is_function_class f ≡ true → (r o : Types) (n : Named) (e : Ty) → Sub table (function r o n e) t
    above_function {f = invalid} a h r o n e = cc
    above_function {f = never} a h r o n e = cc
    above_function {f = void} a h r o n e = cc
    above_function {f = null} a h r o n e = cc
    above_function {f = interface c ss} a h r o n e = above_class a h r o n e
    above_function {f = function r' o' n' e'} a h r o n e = cc
    above_function {f = variable x} a h r o n e = cc
    above_function {f = promoted x w} a h r o n e = cc
    above_function {f = nullable w} a h r o n e = cc
