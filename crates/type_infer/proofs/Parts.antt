-- Parts of types, and how large they are.
use Rattle.std.proofs.Common.{ℕ, zero, suc, ◌<◌, ◌≤◌, List, [], ◌∷◌, length, get_or, arith}
use Rattle.dart_types.specs.Ty.{Ty, types_of}
use Rattle.dart_types.specs.Named.{named_of}
use Rattle.dart_types.specs.Sizes.{size_of, sizes_of, sizes_of_named}
use Rattle.dart_types.specs.declared.types.NamedType.{NamedType}

-- no type of a list has more nodes than all
pub size_at : (ts : List Ty) (i : ℕ) (d : Ty) → i < length ts → size_of (get_or ts i d) ≤ sizes_of (types_of ts)
size_at [] i d lt = absurd (omega arith)
size_at (t ∷ ts) zero d lt = omega arith
size_at (t ∷ ts) (suc i) d lt = omega (arith, size_at ts i d (omega arith))

pub named_size_at : (ns : List NamedType) (i : ℕ) (d : NamedType) → i < length ns → size_of (get_or ns i d).ty ≤ sizes_of_named (named_of ns)
named_size_at [] i d lt = absurd (omega arith)
named_size_at (n ∷ ns) zero d lt = omega arith
named_size_at (n ∷ ns) (suc i) d lt = omega (arith, named_size_at ns i d (omega arith))
