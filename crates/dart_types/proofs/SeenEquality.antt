-- Types that are compared by their normal forms, as they are seen.
use Rattle.std.proofs.Common.{◌≡◌, ◌<◌, ◌≤◌, ◌+◌, ℕ, zero, suc, Bool, true, false, List, [], ◌∷◌, length, get_or, refl, sym, ◌∙◌, ap, arith}
use Rattle.std.specs.Prelude.{◌&&◌, ◌↔◌, IsTrue, not, bytes_eq}
use Rattle.std.proofs.lemmas.Bool.{not-false}
use Rattle.std.specs.Cmp.Lexicographic.{pointwise}
use Rattle.dart_types.specs.Ty.{Ty, Types, interface, types_of, height_of, heights_of, heights_of_named}
use Rattle.dart_types.specs.Named.{named_of}
use Rattle.dart_types.specs.Substitution.{put, put_all, put_named, by_params}
use Rattle.dart_types.specs.Scopes.{Frames, close_all}
use Rattle.dart_types.specs.Normal.{normal, normal_all, normal_named}
use Rattle.dart_types.specs.Same.{same_class, same_bool, same_type, same_types, same_named}
use Rattle.dart_types.specs.declared.ids.ClassId.{ClassId}
use Rattle.dart_types.specs.declared.ids.VarId.{VarId}
use Rattle.dart_types.specs.declared.types.NamedType.{NamedType}
use Rattle.dart_types.proofs.SameIds.{equal_from_same_class}
use Rattle.dart_types.proofs.SameType.{same_types-refl, equal_from_same_types}
use Rattle.dart_types.proofs.Steps.{put_all_itself}
use Rattle.dart_types.proofs.ClassSteps.{frame_all}

module _ (σ τ : VarId → Ty) where
  -- whether the normal forms of two types, with others put in, are the same
  abbrev pub same_seen : Ty → Ty → Bool
  same_seen s t = same_type (normal (put σ s)) (normal (put τ t))

  -- whether two named parameters are, up to that of their types
  abbrev pub same_seen_param : NamedType → NamedType → Bool
  same_seen_param m n = bytes_eq m.name n.name && same_bool m.required n.required && same_seen m.ty n.ty

  pub same_seen_types : (xs ys : List Ty) → pointwise same_seen xs ys ≡ same_types (normal_all (put_all σ (types_of xs))) (normal_all (put_all τ (types_of ys)))
  same_seen_types [] [] = refl
  same_seen_types [] (y ∷ ys) = refl
  same_seen_types (x ∷ xs) [] = refl
  same_seen_types (x ∷ xs) (y ∷ ys) = ap (λ (b : Bool). same_seen x y && b) (same_seen_types xs ys)

  same_seen_named : (xs ys : List NamedType) → pointwise same_seen_param xs ys ≡ same_named (normal_named (put_named σ (named_of xs))) (normal_named (put_named τ (named_of ys)))
  same_seen_named [] [] = refl
  same_seen_named [] (y ∷ ys) = refl
  same_seen_named (x ∷ xs) [] = refl
  same_seen_named (x ∷ xs) (y ∷ ys) = ap (λ (b : Bool). same_seen_param x y && b) (same_seen_named xs ys)

  pub same_seen_params : (ms ns : List NamedType) {xs ys : List NamedType} → xs ≡ ms → ys ≡ ns → pointwise same_seen_param xs ys ≡ same_named (normal_named (put_named σ (named_of ms))) (normal_named (put_named τ (named_of ns)))
  same_seen_params ms ns {xs} {ys} e f =
      ap (λ (zs : List NamedType). pointwise same_seen_param zs ys) e
      ∙ ap (λ (zs : List NamedType). pointwise same_seen_param ms zs) f
      ∙ same_seen_named ms ns

-- the types at a place, as they are seen
pub same_seen_at : (σ τ : VarId → Ty) (x y : Ty) {s t : Ty} (b : Bool) → s ≡ put σ x → t ≡ put τ y → b ≡ same_type (normal s) (normal t) → b ≡ same_seen σ τ x y
same_seen_at σ τ x y {s} {t} b e f is = is ∙ ap (λ (u : Ty). same_type (normal u) (normal t)) e ∙ ap (λ (u : Ty). same_type (normal (put σ x)) (normal u)) f

-- named parameters at a place, by their labels and their types
pub labels_differ : (σ τ : VarId → Ty) (m n : NamedType) (b : Bool) → b ≡ (bytes_eq m.name n.name && same_bool m.required n.required) → b ≡ false → false ≡ same_seen_param σ τ m n
labels_differ σ τ m n b e f = ap (λ (a : Bool). a && same_seen σ τ m.ty n.ty) (sym f ∙ e)

pub labels_same : (σ τ : VarId → Ty) (m n : NamedType) (b a : Bool) → b ≡ (bytes_eq m.name n.name && same_bool m.required n.required) → b ≡ true → a ≡ same_seen σ τ m.ty n.ty → a ≡ same_seen_param σ τ m n
labels_same σ τ m n b a e h is = is ∙ ap (λ (l : Bool). l && same_seen σ τ m.ty n.ty) (sym h ∙ e)

-- a list that is seen is higher than each type of it
pub height_at : (σ : VarId → Ty) (xs : List Ty) (i : ℕ) (d : Ty) → i < length xs → height_of (put σ (get_or xs i d)) + 1 ≤ heights_of (put_all σ (types_of xs))
height_at σ [] i d h = absurd (omega arith)
height_at σ (x ∷ xs) zero d h = omega arith
height_at σ (x ∷ xs) (suc i) d h = omega (arith, height_at σ xs i d (omega arith))

pub height_at_named : (σ : VarId → Ty) (ns : List NamedType) (i : ℕ) (d : NamedType) → i < length ns → height_of (put σ (get_or ns i d).ty) + 1 ≤ heights_of_named (put_named σ (named_of ns))
height_at_named σ [] i d h = absurd (omega arith)
height_at_named σ (n ∷ ns) zero d h = omega arith
height_at_named σ (n ∷ ns) (suc i) d h = omega (arith, height_at_named σ ns i d (omega arith))

-- types that are seen in the scope of a class are those with its arguments put in
pub seen_with : {scope outer : Frames} {xs ts : List Ty} (ps : List VarId) (args us : List Ty) → scope ≡ (ps, xs) ∷ outer → outer ≡ [] → xs ≡ args → ts ≡ us → close_all scope (types_of ts) ≡ put_all (by_params ps (types_of args)) (types_of us)
seen_with {xs = xs} {ts = ts} ps args us e f g h =
    ap (λ (fs : Frames). close_all fs (types_of ts)) (e ∙ ap (λ (fs : Frames). (ps, xs) ∷ fs) f ∙ ap (λ (zs : List Ty). (ps, zs) ∷ []) g)
    ∙ ap (λ (zs : List Ty). close_all ((ps, args) ∷ []) (types_of zs)) h
    ∙ frame_all ps args [] (types_of us)
    ∙ ap (λ (vs : Types). put_all (by_params ps vs) (types_of us)) (put_all_itself (types_of args))

-- interfaces of one class are the same where their arguments are
pub same_arguments : (b : Bool) (c d : ClassId) {ss ts us vs : Types} → not (same_class c d) ≡ false → b ≡ same_types (normal_all ss) (normal_all ts) → ss ≡ us → ts ≡ vs → IsTrue b ↔ (interface c (normal_all us) ≡ interface d (normal_all vs))
same_arguments b c d {ss} {ts} {us} {vs} one is f g =
    let e = equal_from_same_class c d (not-false (same_class c d) one) in
    let there : b ≡ same_types (normal_all us) (normal_all vs) = is ∙ ap (λ (xs : Types). same_types (normal_all xs) (normal_all ts)) f ∙ ap (λ (xs : Types). same_types (normal_all us) (normal_all xs)) g in (
      (λ holds. let k = equal_from_same_types (normal_all us) (normal_all vs) (sym there ∙ holds) in cc),
      (λ equal. let k : normal_all us ≡ normal_all vs = cc in there ∙ ap (same_types (normal_all us)) (sym k) ∙ same_types-refl (normal_all us)),
    )
