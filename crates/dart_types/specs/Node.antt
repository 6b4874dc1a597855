-- The form of a type as the code keeps it, whose parts are values already.
use Rattle.dart_types.specs.Ty.{Ty, invalid, never, void, null, interface, function, variable, promoted, nullable, types_of}
use Rattle.dart_types.specs.Named.{named_of}
use Rattle.dart_types.specs.declared.types.FunctionType.{FunctionType}
use Rattle.dart_types.specs.declared.types.TypeNode.{TypeNode}
use Rattle.dart_types.specs.declared.types.TypeNode.TheVariants.{Invalid, Never, Void, Null, Interface, Function, Var, Promoted, Nullable}

-- the type of a function's parameters and result
abbrev pub function_type : FunctionType → Ty
function_type f = function (types_of f.required) (types_of f.optional) (named_of f.named) f.result

-- the type of a form
abbrev pub type_of : TypeNode → Ty
type_of Invalid = invalid
type_of Never = never
type_of Void = void
type_of Null = null
type_of (Interface class args) = interface class (types_of args.value)
type_of (Function f) = function_type f.value
type_of (Var var) = variable var
type_of (Promoted var to) = promoted var to.value
type_of (Nullable bare) = nullable bare.value
