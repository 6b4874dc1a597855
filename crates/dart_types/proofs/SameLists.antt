-- Lists that are compared place by place.
use Rattle.std.proofs.Common.{◌≡◌, ◌<◌, ◌≤◌, ◌+◌, ℕ, suc, Bool, true, false, List, [], ◌∷◌, length, drop, get_or, refl, sym, ap, ◌∙◌, drop-cons, add-one}
use Rattle.std.specs.Prelude.{◌&&◌}
use Rattle.std.specs.Cmp.Lexicographic.{pointwise, unequal}
use Rattle.std.proofs.lemmas.List.{drop_all}
use Rattle.dart_types.specs.Ty.{Ty, types_of}
use Rattle.dart_types.specs.Named.{named_of}
use Rattle.dart_types.specs.Same.{same_type, same_types, same_named}
use Rattle.dart_types.specs.SameNamed.{same_param}
use Rattle.dart_types.specs.declared.types.NamedType.{NamedType}

pub same_types-types_of : (xs ys : List Ty) → same_types (types_of xs) (types_of ys) ≡ pointwise same_type xs ys
same_types-types_of [] [] = refl
same_types-types_of [] (y ∷ ys) = refl
same_types-types_of (x ∷ xs) [] = refl
same_types-types_of (x ∷ xs) (y ∷ ys) = ap (λ b. same_type x y && b) (same_types-types_of xs ys)

pub same_named-named_of : (xs ys : List NamedType) → same_named (named_of xs) (named_of ys) ≡ pointwise same_param xs ys
same_named-named_of [] [] = refl
same_named-named_of [] (y ∷ ys) = refl
same_named-named_of (x ∷ xs) [] = refl
same_named-named_of (x ∷ xs) (y ∷ ys) = ap (λ b. same_param x y && b) (same_named-named_of xs ys)

-- lists of the same types are the same
pub equal_from_types_of : (xs ys : List Ty) → types_of xs ≡ types_of ys → xs ≡ ys
equal_from_types_of [] [] e = refl
equal_from_types_of [] (y ∷ ys) e = cc
equal_from_types_of (x ∷ xs) [] e = cc
equal_from_types_of (x ∷ xs) (y ∷ ys) e =
    let h : x ≡ y = cc in
    let k : types_of xs ≡ types_of ys = cc in
    let l = equal_from_types_of xs ys k in
    cc

module _ {X : Type 0} (test : X → X → Bool) where
  -- from one place on: the pair there, and those behind it
  pub pointwise-drop : (xs ys : List X) (i : ℕ) (x y : X) → i < length xs → i < length ys → x ≡ get_or xs i x → y ≡ get_or ys i y → pointwise test (drop i xs) (drop i ys) ≡ test x y && pointwise test (drop (i + 1) xs) (drop (i + 1) ys)
  pointwise-drop xs ys i x y h k e f =
      rw (add-one i) (
      let a : drop i xs ≡ get_or xs i x ∷ drop (suc i) xs = drop-cons xs i x h in
      let b : drop i ys ≡ get_or ys i y ∷ drop (suc i) ys = drop-cons ys i y k in
      rw (a, b, ← e, ← f) refl)

  pub pointwise_none_left : (xs ys : List X) (i : ℕ) → length xs ≤ i → length ys ≤ i → pointwise test (drop i xs) (drop i ys) ≡ true
  pointwise_none_left xs ys i h k = rw (drop_all i xs h, drop_all i ys k) refl

  pub differ_in_length : (xs ys : List X) → (length xs ≡ length ys → ⊥) → false ≡ pointwise test xs ys
  differ_in_length xs ys h = sym (unequal test xs ys h)

  -- a pair that differs
  pub differ_at : (xs ys : List X) (i : ℕ) (x y : X) (b : Bool) → i < length xs → i < length ys → x ≡ get_or xs i x → y ≡ get_or ys i y → b ≡ test x y → b ≡ false → pointwise test (drop i xs) (drop i ys) ≡ pointwise test xs ys → false ≡ pointwise test xs ys
  differ_at xs ys i x y b h k e f is apart so =
      let at : test x y ≡ false = sym is ∙ apart in
      let left : pointwise test (drop i xs) (drop i ys) ≡ false = pointwise-drop xs ys i x y h k e f ∙ ap (λ a. a && pointwise test (drop (i + 1) xs) (drop (i + 1) ys)) at in
      sym left ∙ so

  -- a pair that doesn't
  pub same_at : (xs ys : List X) (i : ℕ) (x y : X) (b : Bool) → i < length xs → i < length ys → x ≡ get_or xs i x → y ≡ get_or ys i y → b ≡ test x y → b ≡ true → pointwise test (drop i xs) (drop i ys) ≡ pointwise test xs ys → pointwise test (drop (i + 1) xs) (drop (i + 1) ys) ≡ pointwise test xs ys
  same_at xs ys i x y b h k e f is holds so =
      let at : test x y ≡ true = sym is ∙ holds in
      let left : pointwise test (drop i xs) (drop i ys) ≡ pointwise test (drop (i + 1) xs) (drop (i + 1) ys) = pointwise-drop xs ys i x y h k e f ∙ ap (λ a. a && pointwise test (drop (i + 1) xs) (drop (i + 1) ys)) at in
      sym left ∙ so

  -- no pair that is left differs
  pub same_at_end : (xs ys : List X) (i : ℕ) → length xs ≤ i → length ys ≤ i → pointwise test (drop i xs) (drop i ys) ≡ pointwise test xs ys → true ≡ pointwise test xs ys
  same_at_end xs ys i h k so = sym (pointwise_none_left xs ys i h k) ∙ so
