-- The rows among the entries.
use Rattle.std.proofs.Common.{◌≡◌, Bool, true, false, List, [], ◌∷◌, map, get_or, Some, refl, subst, cond}
use Rattle.std.specs.Prelude.{find, AllPairs}
use Rattle.std.specs.Option.{option_map}
use Rattle.std.proofs.Math.ListN.{get_or-map, length-map}

module _ {X Y : Type 0} (f : X → Y) where
  -- what is found among the images is the image of what is found
  pub find-map : (p : Y → Bool) (xs : List X) → find p (map f xs) ≡ option_map f (find (λ x. p (f x)) xs)
  find-map p [] = refl
  find-map p (x ∷ xs) = at (p (f x)) (find-map p xs)
    where
      at : (b : Bool) → find p (map f xs) ≡ option_map f (find (λ x. p (f x)) xs) → cond b (Some (f x)) (find p (map f xs)) ≡ option_map f (cond b (Some x) (find (λ x. p (f x)) xs))
      at true e = refl
      at false e = e

  -- what holds of all pairs of images holds of the pairs that they are images of
  pub AllPairs-map : (R : Y → Y → Type 0) (xs : List X) → AllPairs R (map f xs) → AllPairs (λ (a b : X). R (f a) (f b)) xs
  AllPairs-map R xs h i j d lt within =
      subst (λ (y : Y). R y (f (get_or xs j d))) (get_or-map f xs i d)
      (subst (λ (y : Y). R (get_or (map f xs) i (f d)) y) (get_or-map f xs j d) (h i j (f d) lt (rw (length-map xs f) within)))
