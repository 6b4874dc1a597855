-- A list of types is higher than each of them.
use Rattle.std.specs.Prelude.{◌≤◌, ◌+◌, List, [], ◌∷◌}
use Rattle.std.proofs.Common.{arith}
use denote.Param.Weighed.{most}
use Rattle.dart_types.specs.Ty.{Ty, height_of, heights_of, types_of}

-- no type is as high as the list
pub list_falls : (ts : List Ty) → most (λ t. height_of t + 1) ts ≤ heights_of (types_of ts)
list_falls [] = omega arith
list_falls (t ∷ ts) = omega (arith, list_falls ts)
