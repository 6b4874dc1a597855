-- Forms of types in a scope.
use Rattle.std.specs.Prelude.{List, ◌++◌}
use Rattle.dart_types.specs.Ty.{Ty, Types, Named, join, invalid, never, void, null, interface, variable, promoted, nullable, types_of}
use Rattle.dart_types.specs.Named.{named_of}
use Rattle.dart_types.specs.Node.{function_type}
use Rattle.dart_types.specs.declared.types.FunctionType.{FunctionType}
use Rattle.dart_types.specs.Scopes.{close, close_all, close_named}
use Rattle.dart_types.specs.declared.scopes.Seen.{Seen}
use Rattle.dart_types.specs.declared.scopes.SeenList.{SeenList}
use Rattle.dart_types.specs.declared.scopes.SeenFunction.{SeenFunction}
use Rattle.dart_types.specs.declared.scopes.Form.{Form}
use Rattle.dart_types.specs.declared.scopes.Form.TheVariants.{Invalid, Never, Void, Null, Interface, Function, Var, Promoted, Nullable}

-- the type that is seen
abbrev pub seen_type : Seen → Ty
seen_type s = close s.scope.now s.ty.now

-- the types that are seen
abbrev pub seen_types : SeenList → Types
seen_types s = close_all s.scope.now (types_of s.types.now)

-- the function type that is seen
abbrev pub seen_function : SeenFunction → Ty
seen_function s = close s.scope.now (function_type s.function.now)

-- the type of a form
abbrev pub form_of : Form → Ty
form_of Invalid = invalid
form_of Never = never
form_of Void = void
form_of Null = null
form_of (Interface class args) = interface class (seen_types args)
form_of (Function f) = seen_function f
form_of (Var var) = variable var
form_of (Promoted var to) = promoted var (seen_type to)
form_of (Nullable bare) = nullable (seen_type bare)

-- the positional parameters of a function type, the required ones first
abbrev pub params_of : FunctionType → List Ty
params_of f = f.required ++ f.optional

-- the positional parameters that are seen
abbrev pub seen_params : SeenFunction → Types
seen_params s = join (close_all s.scope.now (types_of s.function.now.required)) (close_all s.scope.now (types_of s.function.now.optional))

-- the named parameters that are seen
abbrev pub seen_named : SeenFunction → Named
seen_named s = close_named s.scope.now (named_of s.function.now.named)
