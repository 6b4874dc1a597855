use Rattle.std.proofs.Common.{◌≡◌, drop}
use Rattle.dart_types.specs.Named.{named_of}
use Rattle.type_bounds.specs.Signatures.{same_names}
use Rattle.type_bounds.proofs.signatures.same_names.Given as goal

-- what is left decides
abbrev pub invariant-loop-i : goal.invariant-loop-i
invariant-loop-i l = same_names (named_of (drop l.i l.named)) (named_of (drop l.i l.others)) ≡ same_names (named_of l.named) (named_of l.others)
