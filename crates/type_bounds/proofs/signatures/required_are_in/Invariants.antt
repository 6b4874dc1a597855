use Rattle.std.proofs.Common.{◌≡◌, drop}
use Rattle.dart_types.specs.Named.{named_of}
use Rattle.type_bounds.specs.Signatures.{required_are_in}
use Rattle.type_bounds.proofs.signatures.required_are_in.Given as goal

-- what is left decides
abbrev pub invariant-loop-i : goal.invariant-loop-i
invariant-loop-i l = required_are_in (named_of (drop l.i l.named)) (named_of l.others) ≡ required_are_in (named_of l.named) (named_of l.others)
