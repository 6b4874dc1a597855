-- What a call that forms a type answers.
use Rattle.std.specs.Prelude.{◌≡◌, ◌<◌, ◌≤◌, Result, Ok, Err}
use Rattle.dart_types.specs.Ty.{Ty}
use Rattle.dart_types.specs.Sizes.{size_of, held}
use Rattle.dart_types.specs.declared.refusal.TypeRefusal.{TypeRefusal}
use Rattle.dart_types.specs.declared.refusal.TypeRefusal.TheVariants.{TooLarge, Memory}
use Rattle.dart_types.specs.declared.refusal.TheConstants.{NODE_LIMIT}

-- the type t that a rule gives is formed, or refused exactly where it has more nodes than it may have; only want of memory is free
abbrev pub Forms : Result Ty TypeRefusal → Ty → Type 0
Forms (Ok formed) t = (formed ≡ t) × (size_of t ≤ NODE_LIMIT)
Forms (Err (TooLarge nodes)) t = (NODE_LIMIT < size_of t) × (nodes ≡ held (size_of t))
Forms (Err Memory) t = Unit {0}
