use Rattle.std.proofs.Common.{take}
use Rattle.std.specs.Prelude.{All}
use Rattle.dart_types.specs.WellFormed.{IsSimple}
use Rattle.dart_types.proofs.types.+simple.Given as goal

abbrev pub invariant-TypeList::are_simple-loop-item : goal.invariant-TypeList::are_simple-loop-item
invariant-TypeList::are_simple-loop-item l = All (IsSimple l.params) (take l.item-index l.item-items)
