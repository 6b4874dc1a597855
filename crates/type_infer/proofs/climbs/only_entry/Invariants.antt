use Rattle.std.proofs.Common.{◌≡◌, take}
use Rattle.std.specs.Prelude.{All}
use Rattle.dart_types.specs.Superinterfaces.{interface_with}
use Rattle.dart_types.specs.declared.superinterfaces.Superinterface.{Superinterface}
use Rattle.type_infer.proofs.climbs.only_entry.Given as goal

-- each of the others that was passed is the same type as the first
abbrev pub invariant-loop-other : goal.invariant-loop-other
invariant-loop-other l = All (λ (o : Superinterface). interface_with l.arguments o ≡ interface_with l.arguments l.first) (take l.other-index l.others)
