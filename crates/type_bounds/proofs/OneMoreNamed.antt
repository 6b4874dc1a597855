-- One more named parameter behind others.
use Rattle.std.proofs.Common.{◌≡◌, ℕ, ◌+◌, ◌-◌, ◌^◌, ◌<◌, min, Bool, List, [], ◌∷◌, ◌++◌, Option, Some, None, refl, sym, ◌∙◌, ap, arith}
use Rattle.dart_types.specs.Ty.{Ty, Named, no_named, more_named}
use Rattle.dart_types.specs.Named.{named_of}
use Rattle.dart_types.specs.Sizes.{size_of, sizes_of_named, held}
use Rattle.dart_types.specs.declared.types.NamedType.{NamedType}
use Rattle.dart_types.specs.declared.refusal.TheConstants.{NODE_LIMIT}
use Rattle.type_bounds.specs.PartsView.{IsFormed}
use Rattle.type_bounds.specs.NamedView.{AreNamedFormed, join_named}
use Rattle.type_bounds.proofs.OneMore.{held_sum}

pub sizes-named : (ns : Named) (n : List ℕ) (r : Bool) (t : Ty) → sizes_of_named (join_named ns (more_named n r t no_named)) ≡ sizes_of_named ns + size_of t
sizes-named no_named n r t = omega arith
sizes-named (more_named m q s ns) n r t = omega (arith, sizes-named ns n r t)

pub named_of-with : (xs : List NamedType) (u : NamedType) → named_of (xs ++ (u ∷ [])) ≡ join_named (named_of xs) (more_named u.name u.required u.ty no_named)
named_of-with [] u = refl
named_of-with (x ∷ xs) u = ap (more_named x.name x.required x.ty) (named_of-with xs u)

module _ (ns : Named) (n : List ℕ) (r : Bool) (t : Ty) where
  abbrev pub longer : Named
  longer = join_named ns (more_named n r t no_named)

  pub nodes-named : (k a b : ℕ) → k ≡ min (a + b) (2 ^ 64 - 1) → a ≡ held (sizes_of_named ns) → b ≡ held (size_of t) → k ≡ held (sizes_of_named longer)
  nodes-named k a b e f g = held_sum k a b (sizes_of_named ns) (size_of t) (sizes_of_named longer) e f g (sizes-named ns n r t)

  pub first_named_too_many : (o : Option (List NamedType)) → o ≡ None → AreNamedFormed o ns → NODE_LIMIT < sizes_of_named longer
  first_named_too_many None e f = omega (arith, f, sizes-named ns n r t)
  first_named_too_many (Some xs) e f = cc

  pub last_named_too_large : (o : Option Ty) → o ≡ None → IsFormed o t → NODE_LIMIT < sizes_of_named longer
  last_named_too_large None e f = omega (arith, f, sizes-named ns n r t)
  last_named_too_large (Some u) e f = cc

  pub formed_named : (o : Option (List NamedType)) (xs : List NamedType) → o ≡ Some xs → AreNamedFormed o ns → named_of xs ≡ ns
  formed_named None xs e f = cc
  formed_named (Some ys) xs e f = let is : ys ≡ xs = cc in ap named_of (sym is) ∙ f.0

  pub formed-with-name : (xs ys : List NamedType) (u : NamedType) → ys ≡ xs ++ (u ∷ []) → named_of xs ≡ ns → u.name ≡ n → u.required ≡ r → u.ty ≡ t → named_of ys ≡ longer
  formed-with-name xs ys u e f g h i =
      let j = ap named_of e in
      let k = named_of-with xs u in
      cc
