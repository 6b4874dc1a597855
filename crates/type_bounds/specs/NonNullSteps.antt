-- A type without null, as the code finds it.
use Rattle.std.specs.Prelude.{◌≡◌, ◌<◌}
use Rattle.dart_types.specs.Ty.{Ty, never, promoted}
use Rattle.dart_types.specs.Tables.{Table}
use Rattle.dart_types.specs.Measure.{weight_of}
use Rattle.type_bounds.specs.NonNull.{non_null_of}
use Rattle.type_bounds.specs.declared.non_nulls.WithoutNull.{WithoutNull}
use Rattle.type_bounds.specs.declared.non_nulls.WithoutNull.TheVariants.{Itself, Nothing, Bare, Promoted}

-- what the type is without null, by a lighter type without null
abbrev pub IsWithoutNull : Table → Ty → WithoutNull → Type 0
IsWithoutNull table t Itself = non_null_of table t ≡ t
IsWithoutNull table t Nothing = non_null_of table t ≡ never
IsWithoutNull table t (Bare bare) = (weight_of table bare.now < weight_of table t) × (non_null_of table t ≡ non_null_of table bare.now)
IsWithoutNull table t (Promoted var to) = (weight_of table to.now < weight_of table t) × (non_null_of table t ≡ promoted var (non_null_of table to.now))
