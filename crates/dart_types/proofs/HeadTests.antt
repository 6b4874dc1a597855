-- The tests of single forms of types hold just of these.
use Rattle.std.proofs.Common.{◌≡◌, true, refl, subst, sym, ap, inl, inr}
use Rattle.std.specs.Prelude.{◌⊎◌}
use Rattle.dart_types.specs.Ty.{Ty, invalid, never, void, null, interface, function, variable, promoted, nullable, no_more, more}
use Rattle.dart_types.specs.Heads.{object, is_object, is_function_class, is_top}
use Rattle.dart_types.specs.declared.ids.ClassId.{ClassId}
use Rattle.dart_types.specs.declared.ids.TheConstants.{OBJECT, FUNCTION}
use Rattle.dart_types.proofs.SameIds.{equal_from_same_class, same_class-refl}

pub object_is : (t : Ty) → is_object t ≡ true → t ≡ object
object_is invalid h = cc
object_is never h = cc
object_is void h = cc
object_is null h = cc
object_is (interface c no_more) h = ap (λ (d : ClassId). interface d no_more) (equal_from_same_class c OBJECT h)
object_is (interface c (more t ts)) h = cc
object_is (function r o n e) h = cc
object_is (variable x) h = cc
object_is (promoted x t) h = cc
object_is (nullable t) h = cc

pub is_object_of : (t : Ty) → t ≡ object → is_object t ≡ true
is_object_of t e = subst (λ (u : Ty). is_object u ≡ true) (sym e) (same_class-refl OBJECT)

pub function_class_is : (t : Ty) → is_function_class t ≡ true → t ≡ interface FUNCTION no_more
function_class_is invalid h = cc
function_class_is never h = cc
function_class_is void h = cc
function_class_is null h = cc
function_class_is (interface c no_more) h = ap (λ (d : ClassId). interface d no_more) (equal_from_same_class c FUNCTION h)
function_class_is (interface c (more t ts)) h = cc
function_class_is (function r o n e) h = cc
function_class_is (variable x) h = cc
function_class_is (promoted x t) h = cc
function_class_is (nullable t) h = cc

pub is_function_class_of : (t : Ty) → t ≡ interface FUNCTION no_more → is_function_class t ≡ true
is_function_class_of t e = subst (λ (u : Ty). is_function_class u ≡ true) (sym e) (same_class-refl FUNCTION)

pub top_is : (t : Ty) → is_top t ≡ true → (t ≡ void) ⊎ (t ≡ nullable object)
top_is invalid h = cc
top_is never h = cc
top_is void h = inl refl
top_is null h = cc
top_is (interface c ts) h = cc
top_is (function r o n e) h = cc
top_is (variable x) h = cc
top_is (promoted x t) h = cc
top_is (nullable t) h = inr (ap nullable (object_is t h))

pub is_top_of : (t : Ty) → (t ≡ void) ⊎ (t ≡ nullable object) → is_top t ≡ true
is_top_of t (inl e) = subst (λ (u : Ty). is_top u ≡ true) (sym e) refl
is_top_of t (inr e) = subst (λ (u : Ty). is_top u ≡ true) (sym e) (same_class-refl OBJECT)
