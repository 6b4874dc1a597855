-- A bound that is a variable, as the test of subtyping goes on to it.
use Rattle.std.specs.Prelude.{◌≡◌}
use Rattle.dart_types.specs.Ty.{Ty, variable, nullable}
use Rattle.dart_types.specs.declared.subtyping.BoundVar.{BoundVar}
use Rattle.dart_types.specs.declared.subtyping.BoundVar.TheVariants.{Plain, Nullable, Other}

-- the bound is that variable, with `?` or without; nothing is said of other bounds
abbrev pub IsBoundVar : Ty → BoundVar → Type 0
IsBoundVar b (Plain x) = b ≡ variable x
IsBoundVar b (Nullable x) = b ≡ nullable (variable x)
IsBoundVar b Other = Unit {0}
