-- The forms of types that single rules speak of.
use Rattle.std.specs.Prelude.{Bool, true, false}
use Rattle.dart_types.specs.Ty.{Ty, invalid, never, void, null, interface, function, variable, promoted, nullable, no_more, more}
use Rattle.dart_types.specs.Same.{same_class}
use Rattle.dart_types.specs.declared.ids.TheConstants.{OBJECT, FUNCTION}

-- the type `Object`
abbrev pub object : Ty
object = interface OBJECT no_more

-- whether a type is `Object`
abbrev pub is_object : Ty → Bool
is_object invalid = false
is_object never = false
is_object void = false
is_object null = false
is_object (interface c no_more) = same_class c OBJECT
is_object (interface c (more t ts)) = false
is_object (function r o n e) = false
is_object (variable x) = false
is_object (promoted x t) = false
is_object (nullable t) = false

-- whether a type is `Function`
abbrev pub is_function_class : Ty → Bool
is_function_class invalid = false
is_function_class never = false
is_function_class void = false
is_function_class null = false
is_function_class (interface c no_more) = same_class c FUNCTION
is_function_class (interface c (more t ts)) = false
is_function_class (function r o n e) = false
is_function_class (variable x) = false
is_function_class (promoted x t) = false
is_function_class (nullable t) = false

-- whether a type is `Object?` or `void`
abbrev pub is_top : Ty → Bool
is_top invalid = false
is_top never = false
is_top void = true
is_top null = false
is_top (interface c ts) = false
is_top (function r o n e) = false
is_top (variable x) = false
is_top (promoted x t) = false
is_top (nullable t) = is_object t

-- whether a type is an interface or a function type
abbrev pub is_plain : Ty → Bool
is_plain invalid = false
is_plain never = false
is_plain void = false
is_plain null = false
is_plain (interface c ts) = true
is_plain (function r o n e) = true
is_plain (variable x) = false
is_plain (promoted x t) = false
is_plain (nullable t) = false
