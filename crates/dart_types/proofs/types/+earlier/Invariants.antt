use Rattle.std.proofs.Common.{take}
use Rattle.std.specs.Prelude.{All}
use Rattle.dart_types.specs.WellFormed.{IsEarlier}
use Rattle.dart_types.proofs.types.+earlier.Given as goal

abbrev pub invariant-TypeList::are_earlier-loop-item : goal.invariant-TypeList::are_earlier-loop-item
invariant-TypeList::are_earlier-loop-item l = All (IsEarlier l.x) (take l.item-index l.item-items)

abbrev pub invariant-NamedTypes::are_earlier-loop-item : goal.invariant-NamedTypes::are_earlier-loop-item
invariant-NamedTypes::are_earlier-loop-item l = All (λ named. IsEarlier l.x named.ty) (take l.item-index l.item-items)
