use Rattle.std.proofs.Common.{take}
use Rattle.std.specs.Prelude.{All}
use Rattle.dart_types.specs.WellFormed.{IsOver}
use Rattle.dart_types.specs.Unions.{beside}
use Rattle.dart_types.proofs.types.+over.Given as goal

abbrev pub invariant-TypeList::are_over-loop-item : goal.invariant-TypeList::are_over-loop-item
invariant-TypeList::are_over-loop-item l = All (IsOver (beside l.below.table (record { classes = l.classes; vars = l.vars }))) (take l.item-index l.item-items)

abbrev pub invariant-NamedTypes::are_over-loop-item : goal.invariant-NamedTypes::are_over-loop-item
invariant-NamedTypes::are_over-loop-item l = All (λ named. IsOver (beside l.below.table (record { classes = l.classes; vars = l.vars })) named.ty) (take l.item-index l.item-items)
