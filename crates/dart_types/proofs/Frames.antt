-- The argument of a parameter, found place by place.
use Rattle.std.proofs.Common.{◌≡◌, ℕ, suc, ◌+◌, ◌<◌, ◌≤◌, Bool, true, false, List, [], ◌∷◌, length, drop, get_or, Some, None, refl, sym, ◌∙◌, ap, cond, arith, drop-cons, add-one, ◌==◌}
use Rattle.std.specs.Prelude.{◌&&◌}
use Rattle.std.proofs.lemmas.List.{drop_all}
use Rattle.std.proofs.lemmas.Bool.Decides.{nat_tests}
use Rattle.dart_types.specs.Ty.{Ty, invalid, interface, no_more, types_of}
use Rattle.dart_types.specs.Same.{same_var, same_class}
use Rattle.dart_types.specs.Heads.{is_object}
use Rattle.dart_types.specs.Substitution.{argument_of}
use Rattle.dart_types.specs.Scopes.{Frames, close_all}
use Rattle.dart_types.specs.declared.ids.ClassId.{ClassId}
use Rattle.dart_types.specs.declared.ids.VarId.{VarId}
use Rattle.dart_types.specs.declared.ids.TheConstants.{OBJECT}

argument_none : (ps : List VarId) (x : VarId) → argument_of ps no_more x ≡ None
argument_none [] x = refl
argument_none (p ∷ ps) x = refl

-- where the arguments end no parameter has one
pub argument_past_end : (ps : List VarId) (args : List Ty) (i : ℕ) (x : VarId) → length args ≤ i → argument_of (drop i ps) (types_of (drop i args)) x ≡ None
argument_past_end ps args i x h = ap (λ (ts : List Ty). argument_of (drop i ps) (types_of ts) x) (drop_all i args h) ∙ argument_none (drop i ps) x

argument_cons : (p : VarId) (ps : List VarId) (t : Ty) (ts : List Ty) (x : VarId) (b : Bool) → same_var p x ≡ b → argument_of (p ∷ ps) (types_of (t ∷ ts)) x ≡ cond b (Some t) (argument_of ps (types_of ts) x)
argument_cons p ps t ts x b e = rw e refl

at_place : (ps : List VarId) (args : List Ty) (i : ℕ) (x p : VarId) (t : Ty) → i < length ps → i < length args → argument_of (drop i ps) (types_of (drop i args)) x ≡ argument_of (get_or ps i p ∷ drop (suc i) ps) (types_of (get_or args i t ∷ drop (suc i) args)) x
at_place ps args i x p t h k =
    ap (λ (qs : List VarId). argument_of qs (types_of (drop i args)) x) (drop-cons ps i p h)
    ∙ ap (λ (ts : List Ty). argument_of (get_or ps i p ∷ drop (suc i) ps) (types_of ts) x) (drop-cons args i t k)

-- another parameter is passed over
pub argument_later : (ps : List VarId) (args : List Ty) (i : ℕ) (x p : VarId) → i < length ps → i < length args → same_var (get_or ps i p) x ≡ false → argument_of (drop i ps) (types_of (drop i args)) x ≡ argument_of (drop (i + 1) ps) (types_of (drop (i + 1) args)) x
argument_later ps args i x p h k other =
    at_place ps args i x p invalid h k
    ∙ argument_cons (get_or ps i p) (drop (suc i) ps) (get_or args i invalid) (drop (suc i) args) x false other
    ∙ ap (λ (n : ℕ). argument_of (drop n ps) (types_of (drop n args)) x) (sym (add-one i))

and_true : (b : Bool) → b ≡ b && true
and_true true = refl
and_true false = refl

and_false : (b : Bool) → false ≡ b && false
and_false true = refl
and_false false = refl

-- a class is `Object` where it has no arguments, which a scope doesn't change
pub object_in_scope : (frames : Frames) (c : ClassId) (ts : List Ty) → is_object (interface c (close_all frames (types_of ts))) ≡ (same_class c OBJECT && length ts == 0)
object_in_scope frames c [] = and_true (same_class c OBJECT)
object_in_scope frames c (t ∷ ts) =
    let e : (length (t ∷ ts) == 0) ≡ false = grind (arith, nat_tests) in
    rw e (and_false (same_class c OBJECT))
