use Rattle.std.proofs.Common.{take}
use Rattle.std.specs.Prelude.{All}
use Rattle.dart_types.specs.WellFormed.{IsSupertype}
use Rattle.dart_types.proofs.types.TypeList.are_supertypes.Given as goal

abbrev pub invariant-loop-item : goal.invariant-loop-item
invariant-loop-item l = All (IsSupertype l.params) (take l.item-index l.item-items)
