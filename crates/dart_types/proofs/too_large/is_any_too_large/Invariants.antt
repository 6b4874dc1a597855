use Rattle.std.proofs.Common.{◌<◌, take}
use Rattle.std.specs.Prelude.{All}
use Rattle.dart_types.specs.Sizes.{size_of}
use Rattle.dart_types.specs.Replacements.{replaced}
use Rattle.dart_types.specs.Superinterfaces.{interface_of}
use Rattle.dart_types.specs.declared.superinterfaces.Superinterface.{Superinterface}
use Rattle.dart_types.specs.declared.refusal.TheConstants.{NODE_LIMIT}
use Rattle.dart_types.proofs.too_large.is_any_too_large.Given as goal

abbrev pub invariant-loop-kept : goal.invariant-loop-kept
invariant-loop-kept l = All (λ (s : Superinterface). NODE_LIMIT < size_of (replaced l.replacements (interface_of s)) → ⊥) (take l.kept-index l.list)
