-- Upper bounds that were found already.
use Rattle.std.specs.Prelude.{Bool, true, false, All}
use Rattle.dart_types.specs.Ty.{Ty, invalid, never, void, null, interface, function, variable, promoted, nullable}
use Rattle.dart_types.specs.Tables.{Table}
use Rattle.type_bounds.specs.Bounds.{Upper}
use Rattle.type_bounds.specs.PartsView.{IsSomePart}
use Rattle.type_bounds.specs.declared.known.KnownBound.{KnownBound}
use Rattle.type_bounds.specs.declared.known.KnownBounds.{KnownBounds}
use Rattle.type_bounds.specs.declared.parts.Part.{Part}

-- a variable is what is left of the type without each `?`, where each `X & U` gives way to U
abbrev pub leads_to_variable : Ty → Bool
leads_to_variable invalid = false
leads_to_variable never = false
leads_to_variable void = false
leads_to_variable null = false
leads_to_variable (interface c ts) = false
leads_to_variable (function r o n e) = false
leads_to_variable (variable x) = true
leads_to_variable (promoted x t) = leads_to_variable t
leads_to_variable (nullable t) = leads_to_variable t

-- two types with this bound
abbrev pub known_bound : (s t : Ty) → Part → KnownBound
known_bound s t part = record { left = s; right = t; bound = part }

-- each bound that is kept is the upper bound of its two types, as far as it is formed
abbrev pub AreBounds : Table → KnownBounds → Type 0
AreBounds table known = All (λ k. IsSomePart (Upper table k.left k.right) k.bound) known.bounds.items
