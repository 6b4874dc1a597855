-- In which types a type parameter of a call stands.
use Rattle.std.specs.Prelude.{Bool, false, ◌||◌, List}
use Rattle.dart_types.specs.Ty.{Ty, Types, Named, invalid, never, void, null, interface, function, variable, promoted, nullable, no_more, more, no_named, more_named}
use Rattle.dart_types.specs.WellFormed.{is_among}
use Rattle.dart_types.specs.declared.ids.VarId.{VarId}

abbrev mutual
  -- whether one of the parameters stands in the type
  pub holds_param : List VarId → Ty → Bool
  holds_param params invalid = false
  holds_param params never = false
  holds_param params void = false
  holds_param params null = false
  holds_param params (interface c ts) = hold_param params ts
  holds_param params (function r o n e) = hold_param params r || (hold_param params o || (hold_param_named params n || holds_param params e))
  holds_param params (variable x) = is_among params x
  holds_param params (promoted x t) = is_among params x || holds_param params t
  holds_param params (nullable t) = holds_param params t

  -- whether one stands in a type of the list
  pub hold_param : List VarId → Types → Bool
  hold_param params no_more = false
  hold_param params (more t ts) = holds_param params t || hold_param params ts

  -- whether one stands in the type of a named parameter
  pub hold_param_named : List VarId → Named → Bool
  hold_param_named params no_named = false
  hold_param_named params (more_named n r t ts) = holds_param params t || hold_param_named params ts
