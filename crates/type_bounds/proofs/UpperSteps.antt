-- The rows of the table of upper bounds, by the forms of types as the code sees them.
use Rattle.std.specs.declared.rc.Rc.{Rc}
use Rattle.std.proofs.Common.{Global, ◌≡◌, true, false, List, length, Some, None, refl, sym, ◌∙◌, subst}
use Rattle.std.specs.Prelude.{Bool, not}
use Rattle.dart_types.specs.Ty.{Ty, Types, invalid, never, void, null, interface, function, variable, promoted, nullable, no_more, types_of}
use Rattle.dart_types.specs.Named.{named_of}
use Rattle.dart_types.specs.Node.{type_of, function_type}
use Rattle.dart_types.specs.Heads.{object}
use Rattle.dart_types.specs.Normal.{nullable_of}
use Rattle.dart_types.specs.Same.{same_class}
use Rattle.dart_types.specs.Sub.{right_top, left_bottom}
use Rattle.dart_types.specs.SubTest.{is_null}
use Rattle.dart_types.specs.Tables.{Table, bound_of}
use Rattle.dart_types.specs.declared.ids.ClassId.{ClassId}
use Rattle.dart_types.specs.declared.ids.TheConstants.{FUNCTION}
use Rattle.dart_types.specs.declared.ids.VarId.{VarId}
use Rattle.dart_types.specs.declared.types.FunctionType.{FunctionType}
use Rattle.dart_types.specs.declared.types.TypeList.{TypeList}
use Rattle.dart_types.specs.declared.types.TypeNode.{TypeNode}
use Rattle.dart_types.specs.declared.types.TypeNode.TheVariants.{Invalid, Never, Void, Null, Interface, Function, Var, Promoted, Nullable}
use Rattle.type_bounds.specs.Signatures.{have_upper}
use Rattle.type_bounds.specs.Bounds.{AreApart, is_bare, is_promoted_from, is_settled, Upper, UpperApart, null_left, null_right, promoted_twice, variable_left, promoted_left, variable_right, promoted_right, upper_of_others, function_and_class, class_and_function, one_class, unbound_left, unbound_right, invalid_left, invalid_right, other_arguments, Uppers}
use Rattle.type_bounds.proofs.General.{count-types_of}

pub from_not : {b : Bool} → false ≡ not b → b ≡ true
from_not {b = true} e = refl
from_not {b = false} e = cc

module _ (table : Table) where
  pub at_null_left : (s t : Ty) → is_null s ≡ true → UpperApart table s t (nullable_of t)
  at_null_left invalid t h = cc
  at_null_left never t h = cc
  at_null_left void t h = cc
  at_null_left null t h = null_left
  at_null_left (interface c ts) t h = cc
  at_null_left (function r o n e) t h = cc
  at_null_left (variable x) t h = cc
  at_null_left (promoted x u) t h = cc
  at_null_left (nullable u) t h = cc

  pub at_null_right : (s t : Ty) → is_null t ≡ true → UpperApart table s t (nullable_of s)
  at_null_right s invalid h = cc
  at_null_right s never h = cc
  at_null_right s void h = cc
  at_null_right s null h = null_right
  at_null_right s (interface c ts) h = cc
  at_null_right s (function r o n e) h = cc
  at_null_right s (variable x) h = cc
  at_null_right s (promoted x u) h = cc
  at_null_right s (nullable u) h = cc

  -- variables on the left
  pub at_variable_left : {s t u b : Ty} (x : VarId) → s ≡ variable x → is_bare t ≡ true → bound_of table x ≡ Some b → Upper table b t u → UpperApart table s t u
  at_variable_left {t = t} {u = u} x e h k a = subst (λ (v : Ty). UpperApart table v t u) (sym e) (variable_left h k a)

  pub at_unbound_left : {s t : Ty} (x : VarId) → s ≡ variable x → is_bare t ≡ true → bound_of table x ≡ None → UpperApart table s t invalid
  at_unbound_left {t = t} x e h k = subst (λ (v : Ty). UpperApart table v t invalid) (sym e) (unbound_left h k)

  pub at_promoted_twice : {s : Ty} (t : Ty) (x : VarId) (v : Ty) → s ≡ promoted x v → is_promoted_from x t ≡ true → UpperApart table s t (variable x)
  at_promoted_twice t x v e h = subst (λ (u : Ty). UpperApart table u t (variable x)) (sym e) (at t h)
    where
      at : (t : Ty) → is_promoted_from x t ≡ true → UpperApart table (promoted x v) t (variable x)
      at invalid h = cc
      at never h = cc
      at void h = cc
      at null h = cc
      at (interface c ts) h = cc
      at (function r o n e) h = cc
      at (variable y) h = cc
      at (promoted y u) h = promoted_twice h
      at (nullable u) h = cc

  pub at_promoted_left : {s t u : Ty} (x : VarId) (v : Ty) → s ≡ promoted x v → is_bare t ≡ true → is_promoted_from x t ≡ false → Upper table v t u → UpperApart table s t u
  at_promoted_left {t = t} {u = u} x v e h n a = subst (λ (w : Ty). UpperApart table w t u) (sym e) (promoted_left h n a)

  -- variables on the right
  pub at_variable_right : {s t u b : Ty} (y : VarId) → t ≡ variable y → is_settled s ≡ true → bound_of table y ≡ Some b → Upper table s b u → UpperApart table s t u
  at_variable_right {s = s} {u = u} y e h k a = subst (λ (v : Ty). UpperApart table s v u) (sym e) (variable_right h k a)

  pub at_unbound_right : {s t : Ty} (y : VarId) → t ≡ variable y → is_settled s ≡ true → bound_of table y ≡ None → UpperApart table s t invalid
  at_unbound_right {s = s} y e h k = subst (λ (v : Ty). UpperApart table s v invalid) (sym e) (unbound_right h k)

  pub at_promoted_right : {s t u : Ty} (y : VarId) (v : Ty) → t ≡ promoted y v → is_settled s ≡ true → Upper table s v u → UpperApart table s t u
  at_promoted_right {s = s} {u = u} y v e h a = subst (λ (w : Ty). UpperApart table s w u) (sym e) (promoted_right h a)

  -- two types that are bare and no variables, of which one is neither a class nor a function type
  pub at_settled : (n : TypeNode) {s : Ty} (t : Ty) → type_of n ≡ s → AreApart table s t → is_settled s ≡ true → is_settled t ≡ true → ((c : ClassId) (ts : Rc TypeList Global) → n ≡ Interface c ts → ⊥) → ((f : Rc FunctionType Global) → n ≡ Function f → ⊥) → UpperApart table s t invalid
  at_settled n t e a h k i f = subst (λ (v : Ty). AreApart table v t → is_settled v ≡ true → UpperApart table v t invalid) e (at n i f) a h
    where
      at : (n : TypeNode) → ((c : ClassId) (ts : Rc TypeList Global) → n ≡ Interface c ts → ⊥) → ((f : Rc FunctionType Global) → n ≡ Function f → ⊥) → AreApart table (type_of n) t → is_settled (type_of n) ≡ true → UpperApart table (type_of n) t invalid
      at Invalid i f a h = invalid_left k
      at Never i f a h = absurd (a.0 left_bottom)
      at Void i f a h = absurd (a.1 (right_top refl))
      at Null i f a h = cc
      at (Interface c ts) i f a h = absurd (i c ts refl)
      at (Function g) i f a h = absurd (f g refl)
      at (Var x) i f a h = cc
      at (Promoted x to) i f a h = cc
      at (Nullable bare) i f a h = cc

  pub at_settled_right : (s : Ty) (n : TypeNode) {t : Ty} → type_of n ≡ t → AreApart table s t → is_settled s ≡ true → is_settled t ≡ true → ((c : ClassId) (ts : Rc TypeList Global) → n ≡ Interface c ts → ⊥) → ((f : Rc FunctionType Global) → n ≡ Function f → ⊥) → UpperApart table s t invalid
  at_settled_right s n e a h k i f = subst (λ (v : Ty). AreApart table s v → is_settled v ≡ true → UpperApart table s v invalid) e (at n i f) a k
    where
      at : (n : TypeNode) → ((c : ClassId) (ts : Rc TypeList Global) → n ≡ Interface c ts → ⊥) → ((f : Rc FunctionType Global) → n ≡ Function f → ⊥) → AreApart table s (type_of n) → is_settled (type_of n) ≡ true → UpperApart table s (type_of n) invalid
      at Invalid i f a k = invalid_right h
      at Never i f a k = absurd (a.1 left_bottom)
      at Void i f a k = absurd (a.0 (right_top refl))
      at Null i f a k = cc
      at (Interface c ts) i f a k = absurd (i c ts refl)
      at (Function g) i f a k = absurd (f g refl)
      at (Var x) i f a k = cc
      at (Promoted x to) i f a k = cc
      at (Nullable bare) i f a k = cc

  -- classes
  pub at_class_and_function : {t : Ty} (c : ClassId) (ss : Types) (f : FunctionType) → t ≡ function_type f → UpperApart table (interface c ss) t object
  at_class_and_function c ss f e = subst (λ (v : Ty). UpperApart table (interface c ss) v object) (sym e) class_and_function

  pub at_other_arguments : {t : Ty} (c d : ClassId) (ss ts : List Ty) → t ≡ interface d (types_of ts) → same_class c d ≡ true → (length ss ≡ length ts → ⊥) → UpperApart table (interface c (types_of ss)) t invalid
  at_other_arguments c d ss ts e h n =
      subst (λ (v : Ty). UpperApart table (interface c (types_of ss)) v invalid) (sym e)
      (other_arguments h (λ k. n (sym (count-types_of ss) ∙ (k ∙ count-types_of ts))))

  pub at_one_class : {t : Ty} {us : Types} (c d : ClassId) (ss ts : List Ty) → t ≡ interface d (types_of ts) → same_class c d ≡ true → Uppers table (types_of ss) (types_of ts) us → UpperApart table (interface c (types_of ss)) t (interface c us)
  at_one_class {us = us} c d ss ts e h a = subst (λ (v : Ty). UpperApart table (interface c (types_of ss)) v (interface c us)) (sym e) (one_class h a)

  -- function types
  pub at_function_and_class : {t : Ty} (f : FunctionType) (c : ClassId) (ts : Types) → t ≡ interface c ts → UpperApart table (function_type f) t object
  at_function_and_class f c ts e = subst (λ (v : Ty). UpperApart table (function_type f) v object) (sym e) function_and_class

  pub at_other_functions : {t : Ty} (f g : FunctionType) → t ≡ function_type g → have_upper (types_of f.required) (types_of f.optional) (named_of f.named) (types_of g.required) (types_of g.optional) (named_of g.named) ≡ false → UpperApart table (function_type f) t (interface FUNCTION no_more)
  at_other_functions f g e h = subst (λ (v : Ty). UpperApart table (function_type f) v (interface FUNCTION no_more)) (sym e) (upper_of_others h)
