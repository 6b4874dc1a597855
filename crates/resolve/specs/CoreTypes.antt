-- The types that rows name, each formed once.
use Rattle.std.specs.Prelude.{◌≡◌}
use Rattle.dart_types.specs.Ty.{never, null, nullable}
use Rattle.dart_types.specs.Heads.{object}
use Rattle.judgement.specs.ExpressionRows.{bool, int}
use Rattle.resolve.specs.declared.judge.core_types.CoreTypes.TheInside as inside

-- each is the type of its name
pub record AreThose (c : inside.Inside) : Type 0 where
  pub int_is : c.int ≡ int
  pub bool_is : c.bool ≡ bool
  pub object_is : c.object ≡ object
  pub any_is : c.any ≡ nullable object
  pub null_is : c.null ≡ null
  pub never_is : c.never ≡ never
