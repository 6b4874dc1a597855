use Rattle.std.proofs.Common.{take}
use Rattle.std.specs.Prelude.{All}
use Rattle.dart_types.specs.Ty.{Ty}
use Rattle.dart_types.specs.Gathering.{GivesTooLarge}
use Rattle.dart_types.proofs.too_large.forms_too_large_by.Given as goal

abbrev pub invariant-loop-v : goal.invariant-loop-v
invariant-loop-v l = All (λ (v : Ty). GivesTooLarge l.rows.table v → ⊥) (take l.v-index l.v-items)
