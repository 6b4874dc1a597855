-- Which types are open: the mark of an open type parameter stands in them.
use Rattle.std.specs.Prelude.{Bool, false, ◌||◌}
use Rattle.dart_types.specs.Ty.{Ty, Types, Named, invalid, never, void, null, interface, function, variable, promoted, nullable, no_more, more, no_named, more_named}
use Rattle.dart_types.specs.Same.{same_var}
use Rattle.type_infer.specs.declared.contexts.TheConstants.{OPEN_PARAMETER}

abbrev mutual
  -- whether the mark stands in the type
  pub is_open : Ty → Bool
  is_open invalid = false
  is_open never = false
  is_open void = false
  is_open null = false
  is_open (interface c ts) = are_open ts
  is_open (function r o n e) = are_open r || (are_open o || (are_open_named n || is_open e))
  is_open (variable x) = same_var x OPEN_PARAMETER
  is_open (promoted x t) = is_open t
  is_open (nullable t) = is_open t

  -- whether it stands in a type of the list
  pub are_open : Types → Bool
  are_open no_more = false
  are_open (more t ts) = is_open t || are_open ts

  -- whether it stands in the type of a named parameter
  pub are_open_named : Named → Bool
  are_open_named no_named = false
  are_open_named (more_named n r t ts) = is_open t || are_open_named ts
