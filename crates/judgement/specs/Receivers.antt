-- The type whose members a value of a type has.
use Rattle.std.specs.Prelude.{ℕ}
use Rattle.std.specs.Option.{option_map_or}
use Rattle.std.proofs.Common.{zero, suc}
use Rattle.dart_types.specs.Ty.{Ty, invalid, never, void, null, interface, function, variable, promoted, nullable}
use Rattle.dart_types.specs.Measure.{weight_of}
use Rattle.dart_types.specs.Tables.{Table, bound_of}

-- One step: a variable has the members of its bound, unless it has none, and `X & U` has those of U; each other type has its own
abbrev pub member_step : Table → (Ty → Ty) → Ty → Ty
member_step table below invalid = invalid
member_step table below never = never
member_step table below void = void
member_step table below null = null
member_step table below (interface c ts) = interface c ts
member_step table below (function r o n e) = function r o n e
member_step table below (variable x) = option_map_or below (bound_of table x) (variable x)
member_step table below (promoted x u) = below u
member_step table below (nullable u) = nullable u

-- the type whose members one has, after so many steps at most
abbrev pub member_type_within : Table → ℕ → Ty → Ty
member_type_within table zero t = t
member_type_within table (suc steps) t = member_step table (member_type_within table steps) t

-- the type whose members one has: the nodes of a type and of the bounds of its variables are steps enough
unfoldable pub member_type : Table → Ty → Ty
member_type table t = member_type_within table (weight_of table t) t
