-- What a call answers that forms a type of which a rule says how it is.
use Rattle.std.specs.Prelude.{◌≡◌, ◌<◌, ◌≤◌, Result, Ok, Err}
use Rattle.dart_types.specs.Ty.{Ty}
use Rattle.dart_types.specs.Sizes.{size_of, held}
use Rattle.dart_types.specs.declared.refusal.TypeRefusal.{TypeRefusal}
use Rattle.dart_types.specs.declared.refusal.TypeRefusal.TheVariants.{TooLarge, Memory}
use Rattle.dart_types.specs.declared.refusal.TheConstants.{NODE_LIMIT}

-- a type that is so is formed, or one that is so has more nodes than it may have, and is refused; only want of memory is free
abbrev pub FormsSome : (Ty → Type 0) → Result Ty TypeRefusal → Type 0
FormsSome so (Ok formed) = so formed × (size_of formed ≤ NODE_LIMIT)
FormsSome so (Err (TooLarge nodes)) = (t : Ty) × so t × ((NODE_LIMIT < size_of t) × (nodes ≡ held (size_of t)))
FormsSome so (Err Memory) = Unit {0}
