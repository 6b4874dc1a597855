-- A type is higher than each part of it.
use Rattle.std.specs.Prelude.{◌≤◌, max}
use Rattle.std.proofs.Common.{arith}
use Rattle.dart_types.specs.Ty.{height_of}
use Rattle.dart_types.specs.Node.{type_of}
use Rattle.dart_types.specs.declared.types.TypeNode.{TypeNode}
use Rattle.dart_types.specs.declared.types.TypeNode.TheVariants.{Invalid, Never, Void, Null, Interface, Function, Var, Promoted, Nullable}
use Rattle.dart_types.specs.declared.types.DartType.TheDeep.{deep-TypeNode}

-- no part is as high as the whole
pub node_falls : (n : TypeNode) → max (deep-TypeNode n) 0 ≤ height_of (type_of n)
node_falls Invalid = omega arith
node_falls Never = omega arith
node_falls Void = omega arith
node_falls Null = omega arith
node_falls (Interface class args) = omega arith
node_falls (Function f) = omega arith
node_falls (Var x) = omega arith
node_falls (Promoted x to) = omega arith
node_falls (Nullable bare) = omega arith
