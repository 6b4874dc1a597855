-- Bounds that are kept, with one more.
use Rattle.std.proofs.Common.{◌≡◌, List, [], ◌∷◌, ◌++◌}
use Rattle.std.specs.Prelude.{All, Contains}
use Rattle.std.proofs.lemmas.List.Elements.{All-contains, All-same, All-push}
use Rattle.dart_types.specs.Ty.{Ty}
use Rattle.dart_types.specs.Tables.{Table}
use Rattle.type_bounds.specs.Bounds.{Upper}
use Rattle.type_bounds.specs.PartsView.{IsSomePart}
use Rattle.type_bounds.specs.KnownView.{known_bound}
use Rattle.type_bounds.specs.declared.known.KnownBound.{KnownBound}
use Rattle.type_bounds.specs.declared.parts.Part.{Part}

-- the bound that is kept is that of its two types, as far as it is formed
abbrev pub IsKnown : Table → KnownBound → Type 0
IsKnown table k = IsSomePart (Upper table k.left k.right) k.bound

module _ (table : Table) (s t : Ty) (part : Part) (xs : List KnownBound) where
  -- one that is found among them
  pub bound_found : All (IsKnown table) xs → Contains xs (known_bound s t part) → IsSomePart (Upper table s t) part
  bound_found h c = All-contains (IsKnown table) xs (known_bound s t part) h c

  -- and one more behind them
  pub bound_kept : (ys : List KnownBound) → ys ≡ xs ++ known_bound s t part ∷ [] → All (IsKnown table) xs → IsSomePart (Upper table s t) part → All (IsKnown table) ys
  bound_kept ys e h b = All-same (IsKnown table) ys (xs ++ known_bound s t part ∷ []) e (All-push (IsKnown table) xs (known_bound s t part) h b)
