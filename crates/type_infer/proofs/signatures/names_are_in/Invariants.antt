use Rattle.std.proofs.Common.{◌≡◌, drop}
use Rattle.dart_types.specs.Named.{named_of}
use Rattle.type_infer.specs.Pairs.{names_are_in}
use Rattle.type_infer.proofs.signatures.names_are_in.Given as goal

-- the names that are left decide
abbrev pub invariant-loop-item : goal.invariant-loop-item
invariant-loop-item l = names_are_in (named_of (drop l.item-index l.named)) (named_of l.others) ≡ names_are_in (named_of l.named) (named_of l.others)
