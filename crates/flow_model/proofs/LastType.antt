-- The last of a list of types, by its place.
use Rattle.std.proofs.Common.{◌≡◌, ◌≤◌, pred, List, [], ◌∷◌, length, get_or, arith}
use Rattle.dart_types.specs.Ty.{Ty}
use Rattle.flow_model.specs.Flow.{last_or}

-- the type at the last place is the last
pub last_or-at : (t : Ty) (types : List Ty) (u : Ty) → 1 ≤ length types → u ≡ get_or types (pred (length types)) u → u ≡ last_or t types
last_or-at t [] u some is = absurd (omega arith)
last_or-at t (s ∷ []) u some is = is
last_or-at t (s ∷ (r ∷ rest)) u some is = last_or-at s (r ∷ rest) u (omega arith) is
