-- What is known of a class while superinterfaces are formed.
use Rattle.std.specs.Prelude.{ℕ, ◌≡◌, ◌<◌, Option, Some, None}
use Rattle.dart_types.specs.Tables.{Table, class_of}
use Rattle.dart_types.specs.Superinterfaces.{AreSuperinterfaces}
use Rattle.dart_types.specs.declared.ids.ClassId.{ClassId}
use Rattle.dart_types.specs.declared.hierarchy.Known.{Known}

-- its row, and its superinterfaces where it is less far from Object than this
abbrev pub IsKnown : Table → ClassId → ℕ → Option Known → Type 0
IsKnown table c depth None = class_of table c ≡ None
IsKnown table c depth (Some k) =
    (class_of table c ≡ Some k.row.now) × (k.row.now.depth < depth → AreSuperinterfaces table c k.superinterfaces.now)
