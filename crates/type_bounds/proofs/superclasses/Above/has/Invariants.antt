use Rattle.std.proofs.Common.{◌≡◌, take}
use Rattle.std.specs.Prelude.{All}
use Rattle.dart_types.specs.declared.superinterfaces.Superinterface.{Superinterface}
use Rattle.type_bounds.specs.Above.{type_above}
use Rattle.type_bounds.proofs.superclasses.Above.has.Given as goal

-- none that was passed is the same type
abbrev pub invariant-loop-own : goal.invariant-loop-own
invariant-loop-own l = All (λ (own : Superinterface). type_above l.self own ≡ type_above l.of l.s → ⊥) (take l.own-index l.own-items)
