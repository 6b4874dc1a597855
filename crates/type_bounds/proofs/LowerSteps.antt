-- The rows of the table of lower bounds, by the forms of types as the code sees them.
use Rattle.std.specs.declared.rc.Rc.{Rc}
use Rattle.std.proofs.Common.{Global, ◌≡◌, Bool, true, false, refl, sym, subst}
use Rattle.std.specs.Prelude.{◌&&◌, ◌||◌}
use Rattle.dart_types.specs.Ty.{Ty, invalid, never, void, null, interface, function, variable, promoted, nullable, types_of}
use Rattle.dart_types.specs.Named.{named_of}
use Rattle.dart_types.specs.Node.{type_of, function_type}
use Rattle.dart_types.specs.Normal.{nullable_of}
use Rattle.dart_types.specs.Tables.{Table}
use Rattle.dart_types.specs.declared.types.FunctionType.{FunctionType}
use Rattle.dart_types.specs.declared.types.TypeNode.{TypeNode}
use Rattle.dart_types.specs.declared.types.TypeNode.TheVariants.{Invalid, Never, Void, Null, Interface, Function, Var, Promoted, Nullable}
use Rattle.dart_types.specs.Marks.{is_marked}
use Rattle.type_bounds.specs.Bounds.{bare_of, are_functions, Lower, LowerApart, marked_both, lower_of_others, nothing_below}
use Rattle.type_bounds.specs.Signatures.{have_lower}

-- a `?` after the type without it gives the type, if it has one
marked_form : (P : Ty → Type 0) (t : Ty) → is_marked t ≡ true → P (nullable (bare_of t)) → P t
marked_form P invalid h p = cc
marked_form P never h p = cc
marked_form P void h p = cc
marked_form P null h p = cc
marked_form P (interface c ts) h p = cc
marked_form P (function r o n e) h p = cc
marked_form P (variable x) h p = cc
marked_form P (promoted x t) h p = cc
marked_form P (nullable t) h p = p

pub either_holds : (a b : Bool) → (a && b) ≡ true → (a || b) ≡ true
either_holds true b h = refl
either_holds false b h = cc

module _ (table : Table) where
  pub at_both_marks : (s t u : Ty) → is_marked s ≡ true → is_marked t ≡ true → Lower table (bare_of s) (bare_of t) u → LowerApart table s t (nullable_of u)
  at_both_marks s t u h k a =
      marked_form (λ (v : Ty). LowerApart table v t (nullable_of u)) s h
      (marked_form (λ (v : Ty). LowerApart table (nullable (bare_of s)) v (nullable_of u)) t k (marked_both a))

  -- what is no function type on the left
  pub at_no_function_left : (n : TypeNode) {s : Ty} (t : Ty) → type_of n ≡ s → ((f : Rc FunctionType Global) → n ≡ Function f → ⊥) → (is_marked s || is_marked t) ≡ false → LowerApart table s t never
  at_no_function_left n {s} t e f h = nothing_below h (subst (λ (v : Ty). are_functions v t ≡ false) e (at n f))
    where
      at : (n : TypeNode) → ((f : Rc FunctionType Global) → n ≡ Function f → ⊥) → are_functions (type_of n) t ≡ false
      at Invalid f = refl
      at Never f = refl
      at Void f = refl
      at Null f = refl
      at (Interface c ts) f = refl
      at (Function g) f = absurd (f g refl)
      at (Var x) f = refl
      at (Promoted x to) f = refl
      at (Nullable bare) f = refl

  -- and on the right
  pub at_no_function_right : (g : FunctionType) (n : TypeNode) {t : Ty} → type_of n ≡ t → ((f : Rc FunctionType Global) → n ≡ Function f → ⊥) → is_marked t ≡ false → LowerApart table (function_type g) t never
  at_no_function_right g n e f h = nothing_below h (subst (λ (v : Ty). are_functions (function_type g) v ≡ false) e (at n f))
    where
      at : (n : TypeNode) → ((f : Rc FunctionType Global) → n ≡ Function f → ⊥) → are_functions (function_type g) (type_of n) ≡ false
      at Invalid f = refl
      at Never f = refl
      at Void f = refl
      at Null f = refl
      at (Interface c ts) f = refl
      at (Function i) f = absurd (f i refl)
      at (Var x) f = refl
      at (Promoted x to) f = refl
      at (Nullable bare) f = refl

  -- other function types
  pub at_lower_others : {t : Ty} (f g : FunctionType) → t ≡ function_type g → have_lower (types_of f.required) (types_of f.optional) (named_of f.named) (types_of g.required) (types_of g.optional) (named_of g.named) ≡ false → LowerApart table (function_type f) t never
  at_lower_others f g e h = subst (λ (v : Ty). LowerApart table (function_type f) v never) (sym e) (lower_of_others h)
