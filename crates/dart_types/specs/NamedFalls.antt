-- A list of named parameters is higher than the type of each.
use Rattle.std.specs.Prelude.{◌≤◌, List, [], ◌∷◌}
use Rattle.std.proofs.Common.{arith}
use denote.Param.Weighed.{most}
use Rattle.dart_types.specs.Ty.{heights_of_named}
use Rattle.dart_types.specs.Named.{named_of}
use Rattle.dart_types.specs.declared.types.NamedType.{NamedType}
use Rattle.dart_types.specs.declared.types.DartType.TheDeep.{deep-NamedType}

-- no type is as high as the list
pub named_falls : (ns : List NamedType) → most deep-NamedType ns ≤ heights_of_named (named_of ns)
named_falls [] = omega arith
named_falls (n ∷ ns) = omega (arith, named_falls ns)
