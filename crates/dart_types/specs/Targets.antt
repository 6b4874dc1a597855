-- What the test of subtyping asks of the right type.
use Rattle.std.specs.Prelude.{Bool, true, false}
use Rattle.dart_types.specs.Ty.{Ty, invalid, never, void, null, interface, function, variable, promoted, nullable}

-- whether a type is no `X & U`, not `void` and without `?`
abbrev pub is_bare_target : Ty → Bool
is_bare_target invalid = true
is_bare_target never = true
is_bare_target void = false
is_bare_target null = true
is_bare_target (interface c ts) = true
is_bare_target (function r o n e) = true
is_bare_target (variable x) = true
is_bare_target (promoted x t) = false
is_bare_target (nullable t) = false

-- the type, with `?` where null is meant too
abbrev pub or_nullable : Bool → Ty → Ty
or_nullable true t = nullable t
or_nullable false t = t
