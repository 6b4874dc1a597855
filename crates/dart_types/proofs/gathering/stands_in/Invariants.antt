use Rattle.std.proofs.Common.{take}
use Rattle.std.specs.Prelude.{◌≢◌, All}
use Rattle.dart_types.specs.declared.superinterfaces.Superinterface.{Superinterface}
use Rattle.dart_types.proofs.gathering.stands_in.Given as goal

-- none that was passed is the one that is looked for
abbrev pub invariant-loop-known : goal.invariant-loop-known
invariant-loop-known l = All (λ (known : Superinterface). known ≢ l.found) (take l.known-index l.known-items)
