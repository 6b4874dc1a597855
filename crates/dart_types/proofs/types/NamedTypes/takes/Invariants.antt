use Rattle.std.proofs.Common.{take}
use Rattle.std.specs.Prelude.{All}
use Rattle.dart_types.specs.Named.{IsNameBefore}
use Rattle.dart_types.proofs.types.NamedTypes.takes.Given as goal

abbrev pub invariant-loop-item : goal.invariant-loop-item
invariant-loop-item l = All (λ named. IsNameBefore named.name l.name) (take l.item-index l.item-items)
