-- How many nodes a type has that isn't formed yet.
use Rattle.std.specs.Prelude.{◌≡◌}
use Rattle.dart_types.specs.Ty.{Ty}
use Rattle.dart_types.specs.Sizes.{size_of, held}
use Rattle.dart_types.specs.Marks.{takes_mark}
use Rattle.type_bounds.specs.declared.counts.Count.{Count}

-- the count is that of this type
abbrev pub Counts : Count → Ty → Type 0
Counts count t = (count.nodes ≡ held (size_of t)) × (count.takes_mark ≡ takes_mark t)
