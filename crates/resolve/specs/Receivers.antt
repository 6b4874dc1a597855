-- How the type is found whose members a receiver has.
use Rattle.std.specs.Prelude.{◌≡◌, ◌<◌, false, Option, Some, None}
use Rattle.dart_types.specs.Ty.{Ty, null}
use Rattle.dart_types.specs.Measure.{weight_of}
use Rattle.dart_types.specs.Same.{same_type}
use Rattle.dart_types.specs.Tables.{Table}
use Rattle.type_bounds.specs.NonNull.{non_null_of}
use Rattle.judgement.specs.Receivers.{member_type}

-- a type has the members of another, which weighs less, or its own
abbrev pub HasMembersOf : Table → Ty → Option Ty → Type 0
HasMembersOf table t None = member_type table t ≡ t
HasMembersOf table t (Some u) = (weight_of table u < weight_of table t) × (member_type table t ≡ member_type table u)

-- without null a type has the members that another has without null, which weighs less, or is itself, if it isn't Null
abbrev pub HasMembersWithoutNullOf : Table → Ty → Option Ty → Type 0
HasMembersWithoutNullOf table t None = same_type t null ≡ false → non_null_of table t ≡ t
HasMembersWithoutNullOf table t (Some u) =
    (weight_of table u < weight_of table t) × (member_type table (non_null_of table t) ≡ member_type table (non_null_of table u))
