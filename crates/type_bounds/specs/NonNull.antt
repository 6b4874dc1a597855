-- A type without null, the `NonNull` of Dart.
use Rattle.std.specs.Prelude.{ℕ, Option, None, Some, if◌then◌else◌}
use Rattle.std.proofs.Common.{zero, suc}
use Rattle.dart_types.specs.Ty.{Ty, invalid, never, void, null, interface, function, variable, promoted, nullable}
use Rattle.dart_types.specs.Heads.{object}
use Rattle.dart_types.specs.Tables.{Table, bound_of}
use Rattle.dart_types.specs.SubTest.{sub}
use Rattle.dart_types.specs.Measure.{weight_of}
use Rattle.dart_types.specs.declared.ids.VarId.{VarId}

-- a variable of which null may be a value is promoted to its bound without null
abbrev pub variable_without_null : Table → (Ty → Ty) → VarId → Option Ty → Ty
variable_without_null table below x None = variable x
variable_without_null table below x (Some bound) = if sub table bound object then variable x else promoted x (below bound)

-- One step: `Null` to `Never`, `U?` to U without null, X to `X & B` of its bound B without null, unless it has none or B is a subtype of Object, and `X & U` to `X & V` of U without null; each other type stays, `void` too.
abbrev pub without_null : Table → (Ty → Ty) → Ty → Ty
without_null table below invalid = invalid
without_null table below never = never
without_null table below void = void
without_null table below null = never
without_null table below (interface c ts) = interface c ts
without_null table below (function r o n e) = function r o n e
without_null table below (variable x) = variable_without_null table below x (bound_of table x)
without_null table below (promoted x u) = promoted x (below u)
without_null table below (nullable u) = below u

-- a type without null, by so many steps at most, one in another
abbrev pub non_null_within : Table → ℕ → Ty → Ty
non_null_within table zero t = t
non_null_within table (suc steps) t = without_null table (non_null_within table steps) t

-- a type without null: the nodes of a type and of the bounds of its variables are steps enough
unfoldable pub non_null_of : Table → Ty → Ty
non_null_of table t = non_null_within table (weight_of table t) t
