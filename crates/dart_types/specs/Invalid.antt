-- Which types the invalid type stands in.
use Rattle.std.specs.Prelude.{Bool, true, false, ◌||◌}
use Rattle.dart_types.specs.Ty.{Ty, Types, Named, invalid, never, void, null, interface, function, variable, promoted, nullable, no_more, more, no_named, more_named}

abbrev mutual
  -- whether it is the type, or stands in it
  pub holds_invalid : Ty → Bool
  holds_invalid invalid = true
  holds_invalid never = false
  holds_invalid void = false
  holds_invalid null = false
  holds_invalid (interface c ts) = hold_invalid ts
  holds_invalid (function r o n e) = hold_invalid r || (hold_invalid o || (hold_invalid_named n || holds_invalid e))
  holds_invalid (variable x) = false
  holds_invalid (promoted x t) = holds_invalid t
  holds_invalid (nullable t) = holds_invalid t

  -- whether it stands in a type of the list
  pub hold_invalid : Types → Bool
  hold_invalid no_more = false
  hold_invalid (more t ts) = holds_invalid t || hold_invalid ts

  -- whether it stands in the type of a named parameter
  pub hold_invalid_named : Named → Bool
  hold_invalid_named no_named = false
  hold_invalid_named (more_named n r t ts) = holds_invalid t || hold_invalid_named ts
