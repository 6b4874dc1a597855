-- What holds of all pairs of a list, as an element is put at its end or taken from there.
use Rattle.std.proofs.Common.{List, [], ◌∷◌, ◌++◌, length, get_or, Contains, refl, ◌∙◌, subst, arith}
use Rattle.std.specs.Prelude.{AllPairs}
use Rattle.std.proofs.lemmas.List.{get_or_append_left, get_or_push, length_push}
use Rattle.std.proofs.lemmas.List.Elements.{Contains-get_or}
use Rattle.std.proofs.lemmas.List.Quantifiers.{all_pairs_push}

module _ {X : Type 0} (R : X → X → Type 0) (xs : List X) (y : X) where
  pub pairs_before : AllPairs R (xs ++ y ∷ []) → AllPairs R xs
  pairs_before h i j d lt within =
      subst (λ (a : X). R a (get_or xs j d)) (get_or_append_left xs (y ∷ []) d i (omega arith))
      (subst (λ (b : X). R (get_or (xs ++ y ∷ []) i d) b) (get_or_append_left xs (y ∷ []) d j within) (h i j d lt (omega (arith, length_push xs y))))

  pub pairs_last : AllPairs R (xs ++ y ∷ []) → (a : X) → Contains xs a → R a y
  pairs_last h a i =
      subst (λ (b : X). R a b) (get_or_push xs y a (length xs) refl)
      (subst (λ (b : X). R b (get_or (xs ++ y ∷ []) (length xs) a)) (get_or_append_left xs (y ∷ []) a i.0 i.1 ∙ i.2) (h i.0 (length xs) a i.1 (omega (arith, length_push xs y))))

  pub pairs_push : AllPairs R xs → ((a : X) → Contains xs a → R a y) → AllPairs R (xs ++ y ∷ [])
  pairs_push h last = all_pairs_push R xs y h (λ k d lt. last (get_or xs k d) (Contains-get_or xs k d lt))
