-- What a `?` adds to a type in normal form.
use Rattle.std.specs.Prelude.{Bool, true, false}
use Rattle.dart_types.specs.Ty.{Ty, invalid, never, void, null, interface, function, variable, promoted, nullable}

-- whether a `?` after the type, which is in normal form, stays there: not after `Never`, `Null`, `void` and another `?`
abbrev pub takes_mark : Ty → Bool
takes_mark invalid = true
takes_mark never = false
takes_mark void = false
takes_mark null = false
takes_mark (interface c ts) = true
takes_mark (function r o n e) = true
takes_mark (variable x) = true
takes_mark (promoted x t) = true
takes_mark (nullable t) = false

-- whether a type ends with `?`
abbrev pub is_marked : Ty → Bool
is_marked invalid = false
is_marked never = false
is_marked void = false
is_marked null = false
is_marked (interface c ts) = false
is_marked (function r o n e) = false
is_marked (variable x) = false
is_marked (promoted x t) = false
is_marked (nullable t) = true
