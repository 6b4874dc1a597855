use Rattle.std.proofs.Common.{◌≡◌, take}
use Rattle.dart_types.proofs.types.TypeList.copy.Given as goal

abbrev pub invariant-loop-item : goal.invariant-loop-item
invariant-loop-item l = l.copies ≡ take l.item-index l.item-items
